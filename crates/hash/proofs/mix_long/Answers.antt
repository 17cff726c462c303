use Rattle.std.proofs.Common.{◌∙◌, arith}
use Rattle.hash.proofs.Hashing.{mixed-step, mixed-end}
use Rattle.hash.proofs.mix_long.Goals as goal

pub loop-k-preserved : goal.loop-k-preserved
loop-k-preserved c =
    let l = c.loop-k in
    mixed-step c.args.name.now l.k l.h (omega arith) c.four-in-loop-k.ensures c.four-in-loop-k-2.ensures c.mix-h-in-loop-k.ensures ∙ l.invariant

pub returns : goal.returns
returns c =
    let l = c.loop-k in
    mixed-end c.args.name.now l.k l.h (omega arith) c.four.ensures c.four-2.ensures c.mix-h.ensures l.invariant
