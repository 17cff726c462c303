-- `free_prefixes::least_unused` meets its contract.
use Prim.Native.Nat.{◌-◌}
use Rattle.bindings.proofs.Asking.{Searching}
use Rattle.free_prefixes.proofs.least_unused.Given as goal

abbrev pub invariant-loop-k : goal.invariant-loop-k
invariant-loop-k l = Searching l.tops l.path l.from l.k

abbrev pub decreases-loop-k : goal.decreases-loop-k
decreases-loop-k l = 65535 - l.k
