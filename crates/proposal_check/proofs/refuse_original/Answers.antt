-- `refuse_original` meets its contract.
use Rattle.proposal_check.proofs.Order.{original-told}
use Rattle.proposal_check.proofs.refuse_original.Goals as goal

pub returns : goal.returns
returns c = original-told c.args.why c.from-told.ensures
