-- `check_few` meets its contract.
use mathlib.Core.Path.{◌∙◌}
use Rattle.table_size.specs.Small.{FEW_ROWS}
use Rattle.bundles.proofs.Opening.{new-room}
use Rattle.bundle_proposals.proofs.Numbering.{new-notes, handed}
use Rattle.bundle_proposals.proofs.Bundles.{original-fails, original-open}
use Rattle.bundle_proposals.proofs.check_few.Goals as goal

pub number_few-requires : goal.number_few-requires
number_few-requires c =
    record { names_at_most = c.requires.0; has_room = (new-room c.args.original.now FEW_ROWS 0 (λ header few. c.requires.0 header), new-notes c.args.original.now FEW_ROWS 0 (λ header few. c.requires.0 header)) }

pub pool-pool-requires : goal.pool-pool-requires
pool-pool-requires c = (c.number_few.ensures.0 _ c.in-Ok.is).opens.inside

pub table-requires : goal.table-requires
table-requires c = (c.number_few.ensures.0 _ c.in-Ok.is).opens.room

pub check_few_proposal-requires : goal.check_few_proposal-requires
check_few_proposal-requires c =
    let h = handed _ _ _ _ (c.number_few.ensures.0 _ c.in-Ok.is) _ _ c.table.ensures c.pool-pool.ensures in record { names_at_most = (c.requires.1, h.0); noted = h.1 }

pub returns-in-Ok : goal.returns-in-Ok
returns-in-Ok c =
    let o = c.number_few.ensures.0 _ c.in-Ok.is in
    c.check_few_proposal.ensures ∙ original-open _ _ _ o.opens c.args.proposal.now _ _ c.table.ensures c.pool-pool.ensures

pub returns-in-Err : goal.returns-in-Err
returns-in-Err c =
    c.refuse_original.ensures ∙ original-fails c.args.original.now c.args.proposal.now _ (c.number_few.ensures.1 _ c.in-Err.is)
