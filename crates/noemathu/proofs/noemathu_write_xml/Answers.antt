-- `noemathu::noemathu_write_xml` meets its contract.
use mathlib.Core.Path.{ap, ◌∙◌}
use Rattle.output_answers.specs.Given.{written_given}
use Rattle.noemathu.proofs.noemathu_write_xml.Goals as goal

pub returns : goal.returns
returns c =
    record { value = c.into.ensures ∙ ap written_given c.write_xml.ensures.value; out_after = c.write_xml.ensures.out_after }
