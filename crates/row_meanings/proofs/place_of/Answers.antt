-- `row_meanings::place_of` meets its contract.
use Rattle.row_meanings.proofs.Tests.{place-own, place-owner}
use Rattle.row_meanings.proofs.place_of.Goals as goal

pub returns-then-kind-eq-ELEMENT : goal.returns-then-kind-eq-ELEMENT
returns-then-kind-eq-ELEMENT c =
    place-own c.args.table.now c.args.row.0 c.kind.ensures c.position_of-position.ensures c.requires.0 c.if-kind-eq-ELEMENT.true

pub returns : goal.returns
returns c =
    place-owner c.args.table.now c.args.row.0 c.kind.ensures c.position_of-position.ensures c.requires.0 c.if-kind-eq-ELEMENT.false c.up.ensures
