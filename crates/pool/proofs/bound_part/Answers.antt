-- `bound_part` meets its contract.
use mathlib.Core.Path.{◌∙◌}
use Rattle.pool.proofs.Standing.{bound-there}
use Rattle.pool.proofs.bound_part.Goals as goal

pub returns : goal.returns
returns c =
    let there = c.bound_place-uri.ensures in record { result_value = c.part.ensures.result_value ∙ bound-there c.args.pool.now c.args.found there; stands_at = rw (← there) c.part.ensures.stands_at }
