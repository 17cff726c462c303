-- `noemathu::noemathu_prefix_of_uri` meets its contract.
use mathlib.Core.Path.{ap, ◌∙◌}
use Rattle.answers.specs.Given.{located_given}
use Rattle.noemathu.proofs.noemathu_prefix_of_uri.Goals as goal

pub returns : goal.returns
returns c = c.into.ensures ∙ ap located_given c.prefix_of_uri.ensures
