-- `sum_of_lengths` does not overflow. The invariant: each row adds one word at most.
use Rattle.std.proofs.Common.{◌*◌, ◌≤◌}
use Rattle.value_bytes.proofs.sum_of_lengths.Given as goal

abbrev pub invariant-loop-r : goal.invariant-loop-r
invariant-loop-r l = l.sum ≤ 4294967295 * l.r
