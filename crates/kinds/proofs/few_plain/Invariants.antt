-- `few_plain` meets its contract. The invariant: the bytes that are left decide.
use Rattle.std.proofs.Common.{◌≡◌, drop}
use Rattle.rules.specs.Lists.{all_of}
use Rattle.kinds.specs.Plain.{is_plain_byte}
use Rattle.kinds.proofs.few_plain.Given as goal

abbrev pub invariant-loop-byte : goal.invariant-loop-byte
invariant-loop-byte l = all_of is_plain_byte (drop l.byte-index l.bytes) ≡ all_of is_plain_byte l.bytes
