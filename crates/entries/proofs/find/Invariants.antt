-- `find` meets its contract. The invariant: what is left of the chain decides.
use Prim.Native.Nat.{◌+◌, ◌%◌, ◌≤◌}
use Rattle.chains.specs.Chains.{Walked}
use Rattle.entries.specs.Entries.{BUCKETS, last_number, is_named, bucket_at}
use Rattle.entries.proofs.find.Given as goal

abbrev pub invariant-loop-at : goal.invariant-loop-at
invariant-loop-at l = Walked (is_named l.entries l.pool l.name) (bucket_at l.entries) (l.hash % BUCKETS) (last_number l.entries) l.at × (l.others + l.at ≤ last_number l.entries)

abbrev pub decreases-loop-at : goal.decreases-loop-at
decreases-loop-at l = l.at
