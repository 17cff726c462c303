-- `inheritance::is_top` meets its contract.
use mathlib.Core.Path.{sym, ◌∙◌}
use borrow.Author.Tests.{ltb-true}
use Rattle.inheritance.proofs.Tests.{top_below, top-alone}
use Rattle.inheritance.proofs.is_top.Goals as goal

pub kind-requires : goal.kind-requires
kind-requires c = ltb-true _ _ (sym c.has_row.ensures ∙ c.if-has_row.true)

pub returns-then-has_row : goal.returns-then-has_row
returns-then-has_row c =
    top_below c.args.table.now c.args.element.0 c.parent-parent.ensures c.has_row.ensures c.if-has_row.true c.kind.ensures

pub returns : goal.returns
returns c = top-alone c.args.table.now c.args.element.0 c.parent-parent.ensures c.has_row.ensures c.if-has_row.false
