-- `plain::is_nothing` meets its contract.
use mathlib.Core.Path.{refl}
use Rattle.fields.proofs.plain.is_nothing.Goals as goal

pub returns : goal.returns
returns c = rw c.place-place.ensures refl
