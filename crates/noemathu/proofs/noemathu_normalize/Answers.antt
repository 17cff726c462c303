-- `noemathu::noemathu_normalize` meets its contract.
use mathlib.Core.Path.{ap, ◌∙◌}
use Rattle.output_answers.specs.Given.{written_given}
use Rattle.noemathu.proofs.noemathu_normalize.Goals as goal

pub returns : goal.returns
returns c =
    record { value = c.into.ensures ∙ ap written_given c.normalize.ensures.value; out_after = c.normalize.ensures.out_after }
