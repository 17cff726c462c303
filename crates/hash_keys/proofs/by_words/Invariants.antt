-- `hash_keys::by_words` meets its contract.
use Rattle.std.proofs.Common.{◌<◌}
use Rattle.hash_keys.proofs.by_words.Given as goal

abbrev pub invariant-loop-word : goal.invariant-loop-word
invariant-loop-word l = (l.one < 4294967296) × (l.two < 4294967296)
