-- `characters::is_harmless` meets its contract.
use mathlib.Core.Path.{refl}
use Rattle.characters.proofs.is_harmless.Goals as goal

pub returns : goal.returns
returns c = rw c.is_control.ensures refl
