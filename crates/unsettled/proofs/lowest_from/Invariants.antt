-- `unsettled::lowest_from` meets its contract.
use Rattle.unsettled.proofs.Walking.{Passing}
use Rattle.unsettled.proofs.lowest_from.Given as goal

abbrev pub invariant-loop-r : goal.invariant-loop-r
invariant-loop-r l = Passing l.table l.notes l.initial.tops l.initial.path l.flags l.initial.r l.tops l.path l.position l.r
