-- `climbing::leads_out` meets its contract.
use mathlib.Core.Bool.{◌&&◌, ◌||◌}
use mathlib.Core.Path.{ap}
use lib.Dec.{eqb, ltb}
use Rattle.rules.specs.Table.{ENTITY_REFERENCE}
use Rattle.climbing.proofs.leads_out.Goals as goal

pub returns : goal.returns
returns c =
    ap (λ element. (element || eqb c.args.kind ENTITY_REFERENCE) && ltb c.args.parent.0 c.args.row.0) c.is_element.ensures
