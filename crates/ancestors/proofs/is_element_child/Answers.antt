-- `ancestors::is_element_child` meets its contract.
use mathlib.Core.Path.{sym, ◌∙◌}
use Rattle.ancestors.proofs.StartElement.{child-yes, child-no}
use Rattle.ancestors.proofs.is_element_child.Goals as goal

pub returns-then-is_element : goal.returns-then-is_element
returns-then-is_element c =
    child-yes c.args.table.now c.args.row.0 c.args.child.0 c.kind.result c.parent.result.0 c.kind.ensures (sym c.is_element.ensures ∙ c.if-is_element.true) c.parent.ensures

pub returns : goal.returns
returns c =
    child-no c.args.table.now c.args.row.0 c.args.child.0 c.kind.result c.kind.ensures (sym c.is_element.ensures ∙ c.if-is_element.false)
