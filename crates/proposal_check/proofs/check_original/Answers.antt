-- `check_original` meets its contract.
use mathlib.Core.Path.{◌∙◌}
use Rattle.proposal_check.proofs.Order.{accepted, refused, original-fails}
use Rattle.proposal_check.proofs.check_original.Goals as goal

pub check-requires : goal.check-requires
check-requires c = c.requires

pub check_proposal-requires : goal.check_proposal-requires
check_proposal-requires c =
    record { pool_value = accepted c.args.original.now c.args.pool.now c.check.ensures.value c.in-Ok.is; noted = c.check.ensures.noted c.in-Ok.is }

pub returns-in-Err : goal.returns-in-Err
returns-in-Err c =
    c.refuse_original.ensures ∙ original-fails c.args.original.now c.args.pool.now c.args.proposal.now c.args.other.now _ (refused c.args.original.now c.args.pool.now c.check.ensures.value _ c.in-Err.is)
