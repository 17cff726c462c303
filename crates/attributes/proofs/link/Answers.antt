-- `attributes::link` meets its contract.
use Prim.Native.Nat.{◌<◌}
use Rattle.rules.specs.Table.{row_count}
use Rattle.notes.specs.Notes.{FIRST, noted}
use mathlib.Core.Path.{refl, sym, ap, ◌∙◌}
use native.Mathlib.Omega.{arith}
use borrow.Author.Tests.{ltb-true, ltb-false}
use Rattle.attributes.proofs.Linking.{owned_by, not-owned, not-owned-by, linked-other, linked-made}
use Rattle.attributes.proofs.link.Goals as goal

pub link-next-requires : goal.link-next-requires
link-next-requires c =
    let within : c.parent-owner.result.0 < row_count c.args.table.now = ltb-true _ _ (sym c.has_row.ensures ∙ c.if-has_row.true) in
    omega arith

pub set_link-requires-then-has_row : goal.set_link-requires-then-has_row
set_link-requires-then-has_row c =
    let within : c.parent-owner.result.0 < row_count c.args.table.now = ltb-true _ _ (sym c.has_row.ensures ∙ c.if-has_row.true) in
    omega arith

pub returns-then-has_row : goal.returns-then-has_row
returns-then-has_row c =
    let all = linked-made c.requires.linked_from c.requires.table_bound.1 c.requires.row_bound (ltb-true _ _ (sym c.has_row.ensures ∙ c.if-has_row.true))
    (owned_by _ _ _ c.kind.ensures c.if-kind-eq-ATTRIBUTE.true c.parent-owner.ensures) c.link-next.ensures c.set_link.ensures (c.set_link-then-has_row.ensures ∙ ap (noted c.set_link.new.notes c.parent-owner.result.0 FIRST) c.position_of.ensures) in record { linked_from_2 = all.0; same_before = all.1 }

pub returns-else-has_row : goal.returns-else-has_row
returns-else-has_row c =
    record { linked_from_2 = linked-other c.requires.linked_from (not-owned-by _ _ c.parent-owner.ensures (ltb-false _ _ (sym c.has_row.ensures ∙ c.if-has_row.false))); same_before = λ r j less. refl }

pub returns-else-kind-eq-ATTRIBUTE : goal.returns-else-kind-eq-ATTRIBUTE
returns-else-kind-eq-ATTRIBUTE c =
    record { linked_from_2 = linked-other c.requires.linked_from (λ e within. not-owned _ _ c.kind.ensures c.if-kind-eq-ATTRIBUTE.false e); same_before = λ r j less. refl }
