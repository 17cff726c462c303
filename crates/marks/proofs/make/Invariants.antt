-- `make` meets its contract. The invariant: the marks from block k on are right, and the last one is at hand.
use Rattle.std.proofs.Common.{◌≤◌, length}
use Rattle.marks.specs.Marks.{Mark}
use Rattle.marks.proofs.Cutting.{MarkedFrom}
use Rattle.marks.proofs.make.Given as goal

abbrev pub invariant-loop-k : goal.invariant-loop-k
invariant-loop-k l =
    record {
      start_within : l.start ≤ length l.pool;
      end_within : l.end ≤ length l.pool;
      last : Mark l.pool l.start l.end;
      later : MarkedFrom l.pool l.marks l.k;
    }
