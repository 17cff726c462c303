-- `good_names::is_name_byte` meets its contract.
use mathlib.Core.Path.{ap}
use mathlib.Core.Bool.{Bool, ◌||◌}
use Rattle.rules.specs.Refusals.{is_later_byte}
use Rattle.good_names.proofs.is_name_byte.Goals as goal

pub returns : goal.returns
returns c = ap (λ (first : Bool). first || is_later_byte c.args.b) c.is_first_byte.ensures
