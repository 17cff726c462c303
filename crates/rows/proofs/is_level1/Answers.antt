-- `rows::is_level1` meets its contract.
use lib.Dec.{eqb}
use Rattle.rules.specs.Table.{LEVEL1_ELEMENT, LEVEL1_ATTRIBUTE}
use Rattle.rows.proofs.Words.{or-false}
use Rattle.rows.proofs.is_level1.Goals as goal

pub returns : goal.returns
returns c = or-false (eqb c.args.kind LEVEL1_ELEMENT) (eqb c.args.kind LEVEL1_ATTRIBUTE)
