-- `structure::allowed_parents` meets its contract: the table is right in every bit.
use mathlib.Core.Path.{refl}
use Rattle.rules.specs.Refusals.{parent_rule}
use Rattle.tree.specs.Parents.{rule_allows}
use Rattle.tree.proofs.structure.allowed_parents.Goals as goal

pub returns : goal.returns
unfolding parent_rule rule_allows
returns c = record { size = refl; bits = refl }
