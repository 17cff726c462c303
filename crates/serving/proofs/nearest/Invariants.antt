-- `serving::nearest` meets its contract. The invariant: the walk has come to `at`.
use Prim.Native.Nat.{◌*◌}
use lib.ListN.{length}
use Rattle.stacks.proofs.Served.{Walking, steps}
use Rattle.serving.proofs.nearest.Given as goal

abbrev pub invariant-loop-at : goal.invariant-loop-at
invariant-loop-at l = Walking l.notes l.tops l.path l.wanted l.at

abbrev pub decreases-loop-at : goal.decreases-loop-at
decreases-loop-at l = steps l.notes l.tops l.path l.wanted (length l.path * length l.path) l.at
