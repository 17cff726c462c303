-- `kept_table::write` meets its contract. The invariant: the kept rows before row r are written, and their numbers are known.
use Rattle.kept_table.proofs.Going.{Going}
use Rattle.kept_table.proofs.write.Given as goal

abbrev pub invariant-loop-r : goal.invariant-loop-r
invariant-loop-r l = Going l.table l.fates l.initial.out l.out l.numbers l.kept l.r
