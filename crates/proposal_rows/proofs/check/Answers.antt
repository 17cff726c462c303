-- `check` meets its contract.
use Rattle.rules.specs.Table.{nodes}
use Rattle.proposal_rows.proofs.Levels.{few, rows-kept, rows-changed}
use Rattle.proposal_rows.proofs.check.Goals as goal

pub check_both-requires : goal.check_both-requires
check_both-requires c =
    (few c.args.original.now c.args.pool.now c.requires.pool_value.0, few c.args.proposal.now c.args.other.now c.requires.pool_value.1)

pub returns-in-Ok : goal.returns-in-Ok
returns-in-Ok c =
    rows-kept (nodes c.args.original.now c.args.pool.now) (nodes c.args.proposal.now c.args.other.now) c.check.ensures.value (c.check.ensures.pool_value_2 c.in-Ok.is) c.in-Ok.is

pub returns-in-Err : goal.returns-in-Err
returns-in-Err c =
    rows-changed (nodes c.args.original.now c.args.pool.now) (nodes c.args.proposal.now c.args.other.now) c.check.ensures.value _ c.in-Err.is (c.check_both.ensures c.args.pool.now c.args.other.now)
