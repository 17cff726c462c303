-- `row_meanings::is_writable` meets its contract.
use Rattle.row_meanings.proofs.Tests.{writable-element, writable-attribute, writable_other}
use Rattle.row_meanings.proofs.is_writable.Goals as goal

pub returns-then-kind-eq-ELEMENT : goal.returns-then-kind-eq-ELEMENT
returns-then-kind-eq-ELEMENT c =
    writable-element c.args.table.now c.args.row.0 (cc) c.args.notes.now c.args.tops.now c.args.path.now c.if-kind-eq-ELEMENT.true c.element_settled.ensures

pub returns-then-kind-eq-ATTRIBUTE : goal.returns-then-kind-eq-ATTRIBUTE
returns-then-kind-eq-ATTRIBUTE c =
    writable-attribute c.args.table.now c.args.row.0 (cc) c.args.notes.now c.args.tops.now c.args.path.now c.if-kind-eq-ELEMENT.false c.if-kind-eq-ATTRIBUTE.true c.attribute_settled.ensures

pub returns : goal.returns
returns c =
    writable_other c.args.table.now c.args.row.0 {k = c.kind-kind.result} c.kind-kind.ensures c.args.notes.now c.args.tops.now c.args.path.now c.if-kind-eq-ELEMENT.false c.if-kind-eq-ATTRIBUTE.false c.is_leaf.ensures
