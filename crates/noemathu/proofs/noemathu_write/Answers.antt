-- `noemathu::noemathu_write` meets its contract.
use mathlib.Core.Path.{ap, ◌∙◌}
use Rattle.output_answers.specs.Given.{written_given}
use Rattle.noemathu.proofs.noemathu_write.Goals as goal

pub returns : goal.returns
returns c =
    record { value = c.into.ensures ∙ ap written_given c.write.ensures.value; out_after = c.write.ensures.out_after }
