use native.Mathlib.Nat.{mod-lt}
use Rattle.repeats.proofs.divisor.Goals as goal

pub loop-y-init : goal.loop-y-init
loop-y-init c = tt

pub loop-y-smaller : goal.loop-y-smaller
loop-y-smaller c = mod-lt _ c.loop-y-test.true

pub loop-y-preserved : goal.loop-y-preserved
loop-y-preserved c = tt

pub returns : goal.returns
returns c = tt
