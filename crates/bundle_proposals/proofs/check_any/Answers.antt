-- `check_any` meets its contract.
use mathlib.Core.Path.{◌∙◌}
use Rattle.rules.specs.Table.{MOST_ROWS}
use Rattle.bundles.proofs.Opening.{new-room}
use Rattle.bundle_proposals.proofs.Numbering.{new-notes, handed}
use Rattle.bundle_proposals.proofs.Bundles.{original-fails, original-open}
use Rattle.bundle_proposals.proofs.check_any.Goals as goal

pub number_any-requires : goal.number_any-requires
number_any-requires c =
    (new-room c.args.original.now MOST_ROWS 0 (λ header few. few), new-notes c.args.original.now MOST_ROWS 0 (λ header few. few))

pub pool-pool-requires : goal.pool-pool-requires
pool-pool-requires c = (c.number_any.ensures.0 _ c.in-Ok.is).opens.inside

pub table-requires : goal.table-requires
table-requires c = (c.number_any.ensures.0 _ c.in-Ok.is).opens.room

pub check_any_proposal-requires : goal.check_any_proposal-requires
check_any_proposal-requires c =
    let h = handed _ _ _ _ (c.number_any.ensures.0 _ c.in-Ok.is) _ _ c.table.ensures c.pool-pool.ensures in record { pool_value = h.0; noted = h.1 }

pub returns-in-Ok : goal.returns-in-Ok
returns-in-Ok c =
    let o = c.number_any.ensures.0 _ c.in-Ok.is in
    c.check_any_proposal.ensures ∙ original-open _ _ _ o.opens c.args.proposal.now _ _ c.table.ensures c.pool-pool.ensures

pub returns-in-Err : goal.returns-in-Err
returns-in-Err c =
    c.refuse_original.ensures ∙ original-fails c.args.original.now c.args.proposal.now _ (c.number_any.ensures.1 _ c.in-Err.is)
