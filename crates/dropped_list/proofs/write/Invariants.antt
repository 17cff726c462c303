-- `dropped_list::write` meets its contract. The invariant: the dropped rows before row r are listed.
use Rattle.std.proofs.Common.{length}
use Rattle.dropped_list.proofs.Going.{Going}
use Rattle.dropped_list.proofs.write.Given as goal

abbrev pub invariant-loop-r : goal.invariant-loop-r
invariant-loop-r l = Going l.fates l.list (length l.initial.list) l.rows l.kept l.r
