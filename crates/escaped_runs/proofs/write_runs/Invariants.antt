-- `escaped_runs::write_runs` meets its contract.
use Prim.Native.Nat.{◌-◌}
use lib.ListN.{length}
use Rattle.escapes.specs.Escapes.{escaped}
use Rattle.escaped_bytes.proofs.Left.{Left}
use Rattle.escaped_runs.proofs.write_runs.Given as goal

abbrev pub invariant-loop-i : goal.invariant-loop-i
invariant-loop-i l = Left l.quoted l.value (escaped l.quoted l.value) l.initial.out l.at l.out l.to l.i

abbrev pub decreases-loop-i : goal.decreases-loop-i
decreases-loop-i l = length l.value - l.i
