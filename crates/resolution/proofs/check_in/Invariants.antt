-- `check_in` meets its contract.
use Rattle.resolution.proofs.Names.{Resolving}
use Rattle.resolution.proofs.check_in.Given as goal

abbrev pub invariant-loop-r : goal.invariant-loop-r
invariant-loop-r l = Resolving l.table l.notes l.initial.tops l.initial.path l.tops l.path l.known l.position l.r
