-- `grown_back` meets its contract. The invariant: the bytes from the start on stand once more.
use Rattle.std.proofs.Common.{◌+◌, ◌-◌}
use Rattle.packed_index.specs.Index.{Repeats}
use Rattle.repeats.proofs.grown_back.Given as goal

abbrev pub invariant-loop-start : goal.invariant-loop-start
invariant-loop-start l = Repeats l.pool l.start (l.size + (l.last - l.start)) l.step
