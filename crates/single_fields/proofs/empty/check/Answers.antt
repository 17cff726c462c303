-- `empty::check` meets its contract.
use Rattle.single_fields.proofs.Single.{refused-length, passed_length}
use Rattle.single_fields.proofs.empty.check.Goals as goal

pub returns-then-must-place : goal.returns-then-must-place
returns-then-must-place c =
    refused-length c.args.table.now c.args.pool.now c.args.row.0 c.args.word c.place-place.ensures c.kind.ensures c.must_be_empty-must.ensures c.if-must-place.true

pub returns : goal.returns
returns c =
    passed_length c.args.table.now c.args.pool.now c.args.row.0 c.args.word c.place-place.ensures c.kind.ensures c.must_be_empty-must.ensures c.if-must-place.false
