-- `noemathu::noemathu_check` meets its contract.
use mathlib.Core.Path.{ap, ◌∙◌}
use Rattle.refusal_numbers.specs.Given.{check_given}
use Rattle.noemathu.proofs.noemathu_check.Goals as goal

pub returns : goal.returns
returns c = c.into.ensures ∙ ap check_given c.check.ensures
