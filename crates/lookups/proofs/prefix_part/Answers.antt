-- `lookups::prefix_part` meets its contract.
use mathlib.Core.Path.{ap, ◌∙◌}
use Rattle.rules.specs.Lookups.{located_part}
use Rattle.rules.specs.Answers.{located_place}
use Rattle.lookups.proofs.Parts.{stands_at, prefix-place}
use Rattle.lookups.proofs.prefix_part.Goals as goal

pub returns : goal.returns
returns c =
    let at = stands_at (λ a. (located_place a).offset.0) c.args.pool c.located_part.result _ _ c.prefix_of_uri.ensures (prefix-place c.args.table.now c.args.pool.now c.args.row.0 c.args.uri.now) c.located_part.ensures.stands_at in record { result_value = c.located_part.ensures.result_value ∙ ap (located_part c.args.pool.now) c.prefix_of_uri.ensures; ref_ptr_value = at.0; ref_ptr_value_2 = at.1 }
