-- `is_repeated` meets its contract.
use mathlib.Core.Path.{refl, sym, ◌∙◌}
use native.Mathlib.Omega.{arith}
use Rattle.rules.proofs.Lists.{true-not-false}
use Rattle.repeats.proofs.Repeating.{same-repeats}
use Rattle.repeats.proofs.is_repeated.Goals as goal

pub returns-then-start-end : goal.returns-then-start-end
returns-then-start-end c = λ t. absurd (true-not-false t refl)

pub returns-then-step-end : goal.returns-then-step-end
returns-then-step-end c = λ t. absurd (true-not-false t refl)

pub returns-then-size-end : goal.returns-then-size-end
returns-then-size-end c = λ t. absurd (true-not-false t refl)

pub returns : goal.returns
returns c = λ t. (omega arith, same-repeats c.args.pool.now c.args.start c.args.size c.args.step (sym c.same.ensures ∙ t))
