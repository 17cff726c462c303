-- `check` meets its contract.
use Rattle.bundle_proposals.proofs.check.Goals as goal

pub check_few-requires : goal.check_few-requires
check_few-requires c = (c.is_small.ensures (c.if-not-is_small.false), c.is_small-2.ensures (c.if-not-is_small-2.false))
