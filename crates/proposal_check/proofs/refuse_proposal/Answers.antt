-- `refuse_proposal` meets its contract.
use Rattle.proposal_check.proofs.Order.{proposal-told}
use Rattle.proposal_check.proofs.refuse_proposal.Goals as goal

pub returns : goal.returns
returns c = proposal-told c.args.why c.from-told.ensures
