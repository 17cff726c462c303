-- `characters::is_control` meets its contract.
use mathlib.Core.Path.{refl}
use mathlib.Core.Bool.{or-false}
use lib.Dec.{eqb}
use Rattle.characters.proofs.is_control.Goals as goal

pub returns : goal.returns
returns c = rw (or-false (eqb c.args.b 13)) refl
