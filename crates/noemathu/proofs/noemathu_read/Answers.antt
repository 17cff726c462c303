-- `noemathu::noemathu_read` meets its contract.
use mathlib.Core.Path.{ap, ◌∙◌}
use Rattle.output_answers.specs.Given.{filled_given}
use Rattle.noemathu.proofs.noemathu_read.Goals as goal

pub returns : goal.returns
returns c =
    record { value = c.into.ensures ∙ ap filled_given c.read.ensures.value; out_table_after = c.read.ensures.out_table_after; out_pool_after = c.read.ensures.out_pool_after }
