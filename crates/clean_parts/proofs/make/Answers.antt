use native.Mathlib.Omega.{arith}
use Rattle.clean_parts.proofs.Parts.{reached-next}
use Rattle.clean_parts.proofs.make.Goals as goal

pub loop-k-init : goal.loop-k-init
loop-k-init c = (omega arith, λ p l h. absurd (omega arith), λ k h. absurd (omega arith))

pub reach_from-reach-requires : goal.reach_from-reach-requires
reach_from-reach-requires c = record { start_in_bounds = (omega arith, c.loop-k.invariant.0); clean = c.loop-k.invariant.1 }

pub overflow_cast-reaches : goal.overflow_cast-reaches
overflow_cast-reaches c = omega arith

pub loop-k-preserved : goal.loop-k-preserved
loop-k-preserved c = (
  c.reach_from-reach.ensures.0,
  λ p h k. c.reach_from-reach.ensures.1 p (omega arith) k,
  reached-next c.args.pool.now c.loop-k.reaches c.loop-k.k c.reach_from-reach.result (omega arith) c.loop-k.invariant.2 c.reach_from-reach.ensures.1,
)

pub returns-clause-reached : goal.returns-clause-reached
returns-clause-reached c = λ k h. c.loop-k.invariant.2 k (omega arith)
