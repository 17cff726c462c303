-- `check_kept` meets its contract.
use Rattle.kept_rows.proofs.Rows.{Keeping}
use Rattle.kept_rows.proofs.check_kept.Given as goal

abbrev pub invariant-loop-r : goal.invariant-loop-r
invariant-loop-r l = Keeping l.original l.pool l.mine l.proposal l.other l.theirs l.met l.known l.r
