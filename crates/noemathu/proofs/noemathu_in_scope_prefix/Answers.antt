-- `noemathu::noemathu_in_scope_prefix` meets its contract.
use mathlib.Core.Path.{ap, ◌∙◌}
use Rattle.answers.specs.Given.{bound_given}
use Rattle.noemathu.proofs.noemathu_in_scope_prefix.Goals as goal

pub returns : goal.returns
returns c = c.into.ensures ∙ ap bound_given c.in_scope_prefix.ensures
