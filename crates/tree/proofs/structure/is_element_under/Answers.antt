-- `structure::is_element_under` meets its contract.
use Rattle.tree.specs.Earlier.{under}
use Rattle.tree.proofs.structure.is_element_under.Goals as goal

pub returns : goal.returns
unfolding under
returns c = cc
