-- `keyed::power` meets its contract. The invariant: what is left of the power, by the square at hand.
use Prim.Native.Nat.{◌<◌}
use mathlib.Core.Path.{◌≡◌}
use Rattle.keyed.specs.Keyed.{raised_from}
use Rattle.keyed.proofs.power.Given as goal

abbrev pub invariant-loop-left : goal.invariant-loop-left
invariant-loop-left l = (l.square < 4294967296) × (l.done < 4294967296) × (raised_from l.square l.done l.left ≡ raised_from l.base 1 l.n)

abbrev pub decreases-loop-left : goal.decreases-loop-left
decreases-loop-left l = l.left
