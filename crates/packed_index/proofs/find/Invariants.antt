-- `find` meets its contract. The invariant: what is left of the chain decides.
use Prim.Native.Nat.{◌+◌, ◌%◌, ◌≤◌}
use Rattle.chains.specs.Chains.{Walked}
use Rattle.packed_index.specs.Index.{BUCKETS, count_of, is_named, bucket_at}
use Rattle.packed_index.proofs.find.Given as goal

abbrev pub invariant-loop-at : goal.invariant-loop-at
invariant-loop-at l = Walked (is_named l.index l.pool l.name) (bucket_at l.index) (l.hash % BUCKETS) (count_of l.index) l.at × (l.others + l.at ≤ count_of l.index)

abbrev pub decreases-loop-at : goal.decreases-loop-at
decreases-loop-at l = l.at
