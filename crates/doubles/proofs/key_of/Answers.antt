-- `key_of` meets its contract.
use Rattle.doubles.proofs.Keys.{key-attribute, key-other}
use Rattle.doubles.proofs.key_of.Goals as goal

pub returns-then-kind-eq-ATTRIBUTE : goal.returns-then-kind-eq-ATTRIBUTE
returns-then-kind-eq-ATTRIBUTE c =
    key-attribute c.args.table.now c.args.notes.now c.args.row.0 c.parent-owner.ensures c.kind-kind.ensures c.name-local.ensures c.if-kind-eq-ATTRIBUTE.true c.name-uri.ensures

pub returns : goal.returns
returns c =
    key-other c.args.table.now c.args.notes.now c.args.row.0 c.parent-owner.ensures c.kind-kind.ensures c.name-local.ensures c.if-kind-eq-ATTRIBUTE.false
