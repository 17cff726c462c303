-- `noemathu::noemathu_default_uri` meets its contract.
use mathlib.Core.Path.{ap, ◌∙◌}
use Rattle.answers.specs.Given.{located_given}
use Rattle.noemathu.proofs.noemathu_default_uri.Goals as goal

pub returns : goal.returns
returns c = c.into.ensures ∙ ap located_given c.default_uri.ensures
