use mathlib.Core.Path.{refl, sym, ◌∙◌}
use native.Mathlib.Omega.{arith}
use Rattle.utf8.proofs.Steps.{whole-end}
use Rattle.utf8.proofs.well_formed.Goals as goal

pub loop-i-init : goal.loop-i-init
loop-i-init c = (omega arith, refl)

pub returns-then-count-eq0 : goal.returns-then-count-eq0
returns-then-count-eq0 c = sym (c.step-count.ensures.malformed c.if-count-eq0.true) ∙ c.loop-i.invariant.1

pub overflow_add-i : goal.overflow_add-i
overflow_add-i c = omega (arith, c.step-count.ensures.within)

pub loop-i-smaller : goal.loop-i-smaller
loop-i-smaller c = omega (arith, c.step-count.ensures.within)

pub loop-i-preserved : goal.loop-i-preserved
loop-i-preserved c = (c.step-count.ensures.within, c.step-count.ensures.passed ∙ c.loop-i.invariant.1)

pub returns : goal.returns
returns c = sym (whole-end c.args.bytes.now c.loop-i.i (omega arith)) ∙ c.loop-i.invariant.1
