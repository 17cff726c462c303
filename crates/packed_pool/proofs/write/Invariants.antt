-- `write` meets its contract.
use Rattle.std.proofs.Common.{◌*◌}
use Rattle.packed_pool.specs.Marking.{Begun}
use Rattle.packed_pool.proofs.write.Given as goal

abbrev pub invariant-loop-four : goal.invariant-loop-four
invariant-loop-four l = Begun l.initial.out l.at l.name (4 * l.four) l.out
