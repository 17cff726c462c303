-- `grown` meets its contract.
use Rattle.std.proofs.Common.{arith, length-take, length-drop}
use Rattle.repeats.proofs.Repeating.{repeats-more}
use Rattle.repeats.proofs.grown.Goals as goal

pub returns : goal.returns
returns c =
    let within = simp (length-take, length-drop) at c.common_length.ensures.within.1 in
    (omega arith, repeats-more c.args.pool.now c.args.start c.args.least c.args.step c.requires.1 c.common_length.result c.common_length.ensures.same)
