-- `subtree_refusals::first_unclear` meets its contract.
use mathlib.Core.Path.{sym, ◌∙◌, subst}
use native.Mathlib.Omega.{arith}
use borrow.Author.Tests.{ltb-true}
use Rattle.meanings.specs.Writable.{WritableTo}
use Rattle.subtree_refusals.proofs.Subtree.{prepared_again, unrefused-clear}
use Rattle.subtree_refusals.proofs.first_unclear.Goals as goal

pub is_top-requires : goal.is_top-requires
is_top-requires c = ltb-true _ _ (sym c.has_row.ensures ∙ c.if-has_row.true)

pub first_unwritable-requires : goal.first_unwritable-requires
first_unwritable-requires c = record { by_index = (_, c.requires.walkable); standing = c.requires.standing }

pub returns-then-not-holds_forbidden : goal.returns-then-not-holds_forbidden
returns-then-not-holds_forbidden c =
    let within = ltb-true _ _ (sym c.has_row.ensures ∙ c.if-has_row.true) in
    let top = sym c.is_top.ensures ∙ c.if-is_top.true in
    let clean = sym c.holds_forbidden.ensures ∙ c.if-not-holds_forbidden.true in
    let before = c.first_unwritable.ensures.by_index_2 c.args.pool.now c.requires.walkable in record { unrefused = (λ is. unrefused-clear c.requires c.args.element.0 within top clean (subst (WritableTo c.args.table.now c.args.pool.now) is before)); writable_to = before; prepared = prepared_again c.requires _ _ c.first_unwritable.auto.tops c.first_unwritable.auto.path c.first_unwritable.ensures.path_unchanged c.first_unwritable.ensures.standing_2 }

pub returns-else-not-holds_forbidden : goal.returns-else-not-holds_forbidden
returns-else-not-holds_forbidden c =
    record { unrefused = (λ is. absurd (omega (arith, is))); writable_to = λ q l k. absurd (omega arith); prepared = c.requires }

pub returns-else-is_top : goal.returns-else-is_top
returns-else-is_top c =
    record { unrefused = (λ is. absurd (omega (arith, is))); writable_to = λ q l k. absurd (omega arith); prepared = c.requires }

pub returns-else-has_row : goal.returns-else-has_row
returns-else-has_row c =
    record { unrefused = (λ is. absurd (omega (arith, is))); writable_to = λ q l k. absurd (omega arith); prepared = c.requires }
