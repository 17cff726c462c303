-- `check_any_proposal` meets its contract.
use mathlib.Core.Path.{◌∙◌}
use Rattle.rules.specs.Table.{MOST_ROWS}
use Rattle.bundles.specs.Opening.{Opens}
use Rattle.bundles.proofs.Opening.{new-room}
use Rattle.bundle_proposals.proofs.Bundles.{proposal-unopened, proposal-open}
use Rattle.bundle_proposals.proofs.check_any_proposal.Goals as goal

pub read_rows-requires : goal.read_rows-requires
read_rows-requires c = new-room c.args.proposal.now MOST_ROWS 0 (λ header few. few)

pub table-rows-requires : goal.table-rows-requires
table-rows-requires c =
    let opened : Opens c.args.proposal.now c.read_rows.new.table c.in-Ok.n = c.read_rows.ensures.by_index _ c.in-Ok.is in
    opened.room

pub pool-requires : goal.pool-requires
pool-requires c =
    let opened : Opens c.args.proposal.now c.read_rows.new.table c.in-Ok.n = c.read_rows.ensures.by_index _ c.in-Ok.is in
    opened.inside

pub check_proposal-requires : goal.check_proposal-requires
check_proposal-requires c = record { pool_value = c.requires.pool_value; noted = c.requires.noted }

pub returns-in-Ok : goal.returns-in-Ok
returns-in-Ok c =
    let opened : Opens c.args.proposal.now c.read_rows.new.table c.in-Ok.n = c.read_rows.ensures.by_index _ c.in-Ok.is in
    c.check_proposal.ensures ∙ proposal-open _ _ _ opened c.args.table.now c.args.pool.now _ _ c.table-rows.ensures c.pool.ensures

pub returns-in-Err : goal.returns-in-Err
returns-in-Err c =
    c.refuse_proposal.ensures ∙ proposal-unopened c.args.table.now c.args.pool.now c.args.proposal.now c.requires.pool_value _ (c.read_rows.ensures.bundle_value _ c.in-Err.is)
