-- `place::check` meets its contract.
use Rattle.single_fields.proofs.Single.{past-pool, without-length, passed-place}
use Rattle.single_fields.proofs.place.check.Goals as goal

pub returns-then-past_pool : goal.returns-then-past_pool
returns-then-past_pool c =
    past-pool c.args.table.now c.args.pool.now c.args.row.0 c.args.word c.place-place.ensures c.wide.ensures c.wide-2.ensures c.if-past_pool.true-raw

pub returns-then-without_length : goal.returns-then-without_length
returns-then-without_length c =
    without-length c.args.table.now c.args.pool.now c.args.row.0 c.args.word c.place-place.ensures c.wide.ensures c.wide-2.ensures c.if-past_pool.false-raw c.if-without_length.true

pub returns : goal.returns
returns c =
    passed-place c.args.table.now c.args.pool.now c.args.row.0 c.args.word c.place-place.ensures c.wide.ensures c.wide-2.ensures c.if-past_pool.false-raw c.if-without_length.false
