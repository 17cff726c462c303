-- `little_endian::write_words` meets its contract. The invariant: so many words are written.
use Rattle.std.proofs.Common.{◌≡◌}
use Rattle.little_endian.proofs.Writing.{words_written}
use Rattle.little_endian.proofs.write_words.Given as goal

abbrev pub invariant-loop-i : goal.invariant-loop-i
invariant-loop-i l = l.out ≡ words_written l.initial.out l.at l.words l.i
