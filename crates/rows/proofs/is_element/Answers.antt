-- `rows::is_element` meets its contract.
use lib.Dec.{eqb}
use Rattle.rules.specs.Table.{ELEMENT, LEVEL1_ELEMENT}
use Rattle.rows.proofs.Words.{or-false}
use Rattle.rows.proofs.is_element.Goals as goal

pub returns : goal.returns
returns c = or-false (eqb c.args.kind ELEMENT) (eqb c.args.kind LEVEL1_ELEMENT)
