-- `all_named` meets its contract. The invariant: the bytes that are left decide.
use Rattle.std.proofs.Common.{◌≡◌, drop}
use Rattle.rules.specs.Lists.{all_of}
use Rattle.rules.specs.Refusals.{is_name_byte}
use Rattle.ends.proofs.all_named.Given as goal

abbrev pub invariant-loop-byte : goal.invariant-loop-byte
invariant-loop-byte l = all_of (is_name_byte l.colons) (drop l.byte-index l.bytes) ≡ all_of (is_name_byte l.colons) l.bytes
