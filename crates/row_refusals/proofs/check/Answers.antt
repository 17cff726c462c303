-- `row_refusals::check` meets its contract.
use mathlib.Core.Path.{sym, ◌∙◌}
use borrow.Author.Tests.{ltb-true, ltb-false}
use Rattle.subtree_refusals.proofs.Subtree.{few-prepared}
use Rattle.row_refusals.proofs.Refused.{element-kind, row-clear, row-level1, row-subtree, row-none}
use Rattle.std.proofs.Common.{ap, Err}
use Rattle.std.proofs.lemmas.Result.{err_from_is_err_and}
use Rattle.row_refusals.proofs.check.Goals as goal

pub returns-then-first : goal.returns-then-first
returns-then-first c =
    row-clear c.args.table.now c.args.pool.now c.args.row.0 c.args.element.0 (few-prepared c.requires.prepared) c.requires.element_value (c.first_unclear-first.ensures.unrefused c.if-first.true)

pub level1-requires : goal.level1-requires
level1-requires c = few-prepared c.requires.prepared

pub returns-in_err-level1 : goal.returns-in_err-level1
returns-in_err-level1 c =
    let p = err_from_is_err_and c.from_residual.result c.from_residual.ensures.1 in
    p.1 ∙ ap Err p.2 ∙ sym c.in_err-level1.was
    ∙ (row-level1 c.args.table.now c.args.pool.now c.args.row.0 c.args.element.0 (few-prepared c.requires.prepared) c.requires.element_value (c.level1.ensures c.args.pool.now) _ c.in_err-level1.was)

pub check_subtree-requires : goal.check_subtree-requires
check_subtree-requires c =
    record { prepared = c.first_unclear-first.ensures.prepared; element_bound = ltb-true _ _ (sym c.has_row.ensures ∙ c.if-has_row.true); writable_to = c.first_unclear-first.ensures.writable_to }

pub returns-then-has_row : goal.returns-then-has_row
returns-then-has_row c =
    let less = ltb-true _ _ (sym c.has_row.ensures ∙ c.if-has_row.true) in
    row-subtree c.args.table.now c.args.pool.now c.args.row.0 c.args.element.0 (few-prepared c.requires.prepared) c.requires.element_value (c.level1.ensures c.args.pool.now) c.in_ok-level1.was less (c.check_subtree.ensures (element-kind c.args.table.now c.args.pool.now c.args.row.0 c.args.element.0 (few-prepared c.requires.prepared) c.requires.element_value less) c.args.row.0)

pub returns : goal.returns
returns c =
    row-none c.args.table.now c.args.pool.now c.args.row.0 c.args.element.0 (few-prepared c.requires.prepared) c.requires.element_value (c.level1.ensures c.args.pool.now) c.in_ok-level1.was (ltb-false _ _ (sym c.has_row.ensures ∙ c.if-has_row.false))
