-- `meanings::first_unwritable` meets its contract.
use Rattle.meanings.proofs.Writable.{Passing}
use Rattle.meanings.proofs.first_unwritable.Given as goal

abbrev pub invariant-loop-r : goal.invariant-loop-r
invariant-loop-r l = Passing l.table l.notes l.initial.tops l.initial.path l.tops l.path l.position l.r
