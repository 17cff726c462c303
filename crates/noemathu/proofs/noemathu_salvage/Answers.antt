-- `noemathu::noemathu_salvage` meets its contract.
use mathlib.Core.Path.{ap, ◌∙◌}
use Rattle.salvage_answers.specs.Given.{rescued_given}
use Rattle.noemathu.proofs.noemathu_salvage.Goals as goal

pub returns : goal.returns
returns c =
    record { value = c.into.ensures ∙ ap rescued_given c.salvage.ensures.value; out_after = c.salvage.ensures.out_after; list_after = c.salvage.ensures.list_after }
