-- `noemathu::noemathu_pack` meets its contract.
use mathlib.Core.Path.{ap, ◌∙◌}
use Rattle.output_answers.specs.Given.{written_given}
use Rattle.noemathu.proofs.noemathu_pack.Goals as goal

pub returns : goal.returns
returns c =
    record { value = c.into.ensures ∙ ap written_given c.pack.ensures.value; out_after = c.pack.ensures.out_after }
