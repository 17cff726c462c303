use Rattle.little_endian.proofs.Reading.{read_step, read-end}
use Rattle.little_endian.proofs.read_words.Goals as goal

pub loop-i-preserved : goal.loop-i-preserved
loop-i-preserved c =
    read_step c.args.table.now c.loop-i.place-items c.args.bytes.now c.args.count c.loop-i.i c.requires.count_in_bounds_2 c.loop-i.invariant c.loop-i-test.true c.word.result c.word.ensures

pub returns : goal.returns
returns c =
    read-end c.args.table.now c.loop-i.place-items c.args.bytes.now c.args.count c.loop-i.i c.requires.count_in_bounds_2 c.loop-i.invariant c.loop-i.auto.i-end c.loop-i-test.false
