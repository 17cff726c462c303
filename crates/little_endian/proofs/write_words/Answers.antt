use Rattle.little_endian.proofs.Writing.{words_step}
use Rattle.little_endian.proofs.write_words.Goals as goal

pub loop-i-preserved : goal.loop-i-preserved
loop-i-preserved c =
    words_step c.args.out.now c.args.at c.args.words.now c.loop-i.i c.loop-i-test.true c.requires c.loop-i.out c.write_word.new.out c.loop-i.invariant c.write_word.ensures
