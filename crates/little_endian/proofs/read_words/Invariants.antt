-- `little_endian::read_words` meets its contract. The invariant: so many words are read.
use Rattle.std.proofs.Common.{◌≡◌}
use lib.Seq.{paste}
use Rattle.little_endian.specs.Numbers.{words_from}
use Rattle.little_endian.proofs.read_words.Given as goal

abbrev pub invariant-loop-i : goal.invariant-loop-i
invariant-loop-i l = l.place-items ≡ paste l.initial.place-items 0 (words_from l.count l.bytes) l.i
