-- `numbered` meets its contract. The invariant: the bytes that are left decide.
use Rattle.std.proofs.Common.{◌≡◌, ◌<◌, drop}
use Rattle.ns_names.specs.Numbers.{read_after, number_of}
use Rattle.ns_names.proofs.numbered.Given as goal

abbrev pub invariant-loop-byte : goal.invariant-loop-byte
invariant-loop-byte l = record { few : l.k < 10000; left : read_after l.k (drop l.byte-index l.byte-items) ≡ number_of l.name }
