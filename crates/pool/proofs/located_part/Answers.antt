-- `located_part` meets its contract.
use mathlib.Core.Path.{◌∙◌}
use Rattle.pool.proofs.Standing.{located-there}
use Rattle.pool.proofs.located_part.Goals as goal

pub returns : goal.returns
returns c =
    let there = c.located_place-place.ensures in record { result_value = c.part.ensures.result_value ∙ located-there c.args.pool.now c.args.found there; stands_at = rw (← there) c.part.ensures.stands_at }
