-- `lookups::prefix_of_uri` meets its contract.
use mathlib.Core.Path.{ap, ◌∙◌}
use Rattle.rules.specs.Lookups.{without_built_ins}
use Rattle.lookups.proofs.prefix_of_uri.Goals as goal

pub returns : goal.returns
returns c = c.without_built_ins.ensures ∙ ap without_built_ins c.lookup.ensures
