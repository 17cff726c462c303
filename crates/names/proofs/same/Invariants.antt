-- `names::same` meets its contract. The invariant of both loops: fronts are left, and the strings are the same behind them.
use Rattle.std.proofs.Common.{length}
use Rattle.names.proofs.Last.{Fronts}
use Rattle.names.proofs.same.Given as goal

abbrev pub invariant-loop-a_front : goal.invariant-loop-a_front
invariant-loop-a_front l = Fronts l.a l.b l.a_left l.b_left

abbrev pub decreases-loop-a_front : goal.decreases-loop-a_front
decreases-loop-a_front l = length l.a_left

abbrev pub invariant-loop-a_front-2 : goal.invariant-loop-a_front-2
invariant-loop-a_front-2 l = Fronts l.a l.b l.a_left l.b_left

abbrev pub decreases-loop-a_front-2 : goal.decreases-loop-a_front-2
decreases-loop-a_front-2 l = length l.a_left
