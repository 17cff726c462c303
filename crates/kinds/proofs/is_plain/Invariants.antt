-- `is_plain` meets its contract. The invariant: the bytes that are left decide.
use Rattle.std.proofs.Common.{◌≡◌, ◌*◌, drop}
use Rattle.rules.specs.Lists.{all_of}
use Rattle.kinds.specs.Plain.{is_plain_byte, is_plain}
use Rattle.kinds.proofs.is_plain.Given as goal

abbrev pub invariant-loop-bytes : goal.invariant-loop-bytes
invariant-loop-bytes l = all_of is_plain_byte (drop (16 * l.bytes-index) l.name) ≡ is_plain l.name
