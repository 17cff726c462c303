use Prim.Native.Nat.{ℕ, ◌/◌}
use mathlib.Core.Path.{refl, sym, ap, ◌∙◌}
use native.Mathlib.Omega.{arith}
use Rattle.keyed.specs.Keyed.{pushed, raised_from}
use Rattle.keyed.proofs.Sums.{raised-halved, raised-done}
use Rattle.keyed.proofs.power.Goals as goal

pub loop-left-init : goal.loop-left-init
loop-left-init c = (omega arith, omega arith, refl)

pub loop-left-preserved : goal.loop-left-preserved
loop-left-preserved c = (
  omega arith,
  c.once-done.ensures.1,
  ap (λ (x : ℕ). raised_from x c.once-done.result (c.loop-left.left / 2)) c.push-square.ensures.value
      ∙ ap (λ (x : ℕ). raised_from (pushed c.loop-left.square c.loop-left.square 0) x (c.loop-left.left / 2)) c.once-done.ensures.0
      ∙ raised-halved c.loop-left.square c.loop-left.done c.loop-left.left ∙ c.loop-left.invariant.2,
)

pub returns : goal.returns
returns c = sym (raised-done c.loop-left.square c.loop-left.done c.loop-left.left (omega arith)) ∙ c.loop-left.invariant.2
