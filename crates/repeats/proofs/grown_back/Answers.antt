use Rattle.repeats.proofs.Repeating.{repeats-before}
use Rattle.repeats.proofs.grown_back.Goals as goal

pub loop-start-preserved : goal.loop-start-preserved
loop-start-preserved c =
    repeats-before c.args.pool.now c.args.last c.args.size c.args.step c.loop-start.start c.loop-start-test.true c.loop-start.auto.start c.loop-start.invariant c.if-pool-start.false
