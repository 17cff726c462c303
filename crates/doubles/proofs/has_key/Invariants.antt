-- `has_key` meets its contract. The invariant: whichever rows are entered, what is left of the chain decides.
use Prim.Native.Nat.{ℕ}
use mathlib.Core.Bool.{Bool}
use Rattle.chains.specs.Chains.{Walked}
use Rattle.doubles.specs.Doubles.{key_of, bucket_of, bucket_among, has_key, Entered}
use Rattle.doubles.proofs.has_key.Given as goal

abbrev pub invariant-loop-at : goal.invariant-loop-at
invariant-loop-at l =
    (enters : ℕ → Bool) → Entered enters l.table l.notes l.chains l.r
    → Walked (has_key enters l.table l.notes (key_of l.table l.notes l.r)) (bucket_among enters l.table l.notes) (bucket_of (key_of l.table l.notes l.r)) l.r l.at

abbrev pub decreases-loop-at : goal.decreases-loop-at
decreases-loop-at l = l.at
