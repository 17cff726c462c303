-- `hash_keys::by_bytes` meets its contract.
use Rattle.std.proofs.Common.{◌<◌}
use Rattle.hash_keys.proofs.by_bytes.Given as goal

abbrev pub invariant-loop-k : goal.invariant-loop-k
invariant-loop-k l = (l.one < 4294967296) × (l.two < 4294967296)
