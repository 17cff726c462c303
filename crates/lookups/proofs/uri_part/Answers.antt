-- `lookups::uri_part` meets its contract.
use mathlib.Core.Path.{ap, ◌∙◌}
use Rattle.rules.specs.Lookups.{bound_part}
use Rattle.rules.specs.Answers.{bound_place}
use Rattle.lookups.proofs.Parts.{stands_at, uri-place}
use Rattle.lookups.proofs.uri_part.Goals as goal

pub returns : goal.returns
returns c =
    let at = stands_at (λ a. (bound_place a).offset.0) c.args.pool c.bound_part.result _ _ c.uri_of_prefix.ensures (uri-place c.args.table.now c.args.pool.now c.args.row.0 c.args.prefix.now) c.bound_part.ensures.stands_at in record { result_value = c.bound_part.ensures.result_value ∙ ap (bound_part c.args.pool.now) c.uri_of_prefix.ensures; ref_ptr_value = at.0; ref_ptr_value_2 = at.1 }
