-- `subtree::flag_all` meets its contract.
use Rattle.subtree.specs.Flags.{Flagged}
use Rattle.subtree.proofs.flag_all.Given as goal

abbrev pub invariant-loop-r : goal.invariant-loop-r
invariant-loop-r l = Flagged l.table l.flags l.e l.r
