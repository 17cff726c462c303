-- `inheritance::is_open` meets its contract.
use Rattle.inheritance.proofs.Tests.{open-read, open-other}
use Rattle.inheritance.proofs.is_open.Goals as goal

pub returns-then-kind-eq-DECLARATION : goal.returns-then-kind-eq-DECLARATION
returns-then-kind-eq-DECLARATION c =
    open-read c.args.table.now c.args.row.0 c.kind.ensures c.args.notes.now c.args.tops.now c.args.element.0 c.if-kind-eq-DECLARATION.true c.parent-owner.ensures c.name-value.ensures c.name.ensures c.nearest-nearest.ensures c.position_of.ensures

pub returns : goal.returns
returns c =
    open-other c.args.table.now c.args.row.0 c.kind.ensures c.args.notes.now c.args.tops.now c.args.element.0 c.if-kind-eq-DECLARATION.false
