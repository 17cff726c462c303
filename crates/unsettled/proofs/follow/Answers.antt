-- `unsettled::follow` meets its contract.
use mathlib.Core.Path.{refl, sym, ◌∙◌}
use Rattle.rules.proofs.Lists.{true-not-false}
use Rattle.unsettled.proofs.follow.Goals as goal

pub returns : goal.returns
returns c =
    record { standing_2 = (c.requires.standing.0, c.requires.standing.1); result_value = λ named. absurd (true-not-false named (sym c.is_named.ensures ∙ c.if-is_named.false)); untouched = λ k. refl }
