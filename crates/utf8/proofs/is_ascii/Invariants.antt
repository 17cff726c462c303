-- `utf8::is_ascii` meets its contract. The invariant: the bytes seen and the bytes that are left decide.
use Rattle.std.proofs.Common.{◌≡◌, ◌&&◌, drop}
use Rattle.rules.specs.Lists.{all_of}
use Rattle.rules.specs.Utf8.{is_ascii}
use Rattle.utf8.proofs.is_ascii.Given as goal

abbrev pub invariant-loop-byte : goal.invariant-loop-byte
invariant-loop-byte l = (l.all && all_of is_ascii (drop l.byte-index l.bytes)) ≡ all_of is_ascii l.bytes
