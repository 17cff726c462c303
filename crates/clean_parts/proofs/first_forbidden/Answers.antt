use mathlib.Core.Path.{sym, ◌∙◌}
use native.Mathlib.Omega.{arith}
use Rattle.clean_parts.proofs.Parts.{clean-next}
use Rattle.clean_parts.proofs.first_forbidden.Goals as goal

pub loop-i-init : goal.loop-i-init
loop-i-init c = λ p l h. absurd (omega arith)

pub returns-then-starts_forbidden : goal.returns-then-starts_forbidden
returns-then-starts_forbidden c = (omega arith, c.loop-i.invariant)

pub loop-i-preserved : goal.loop-i-preserved
loop-i-preserved c =
    clean-next c.args.pool.now c.args.from c.loop-i.i c.loop-i.invariant (sym c.starts_forbidden.ensures ∙ c.if-starts_forbidden.false)

pub returns : goal.returns
returns c = (omega arith, λ p h k. c.loop-i.invariant p h (omega arith))
