-- `flags::is_named` meets its contract.
use mathlib.Core.Path.{refl}
use Rattle.flags.proofs.is_named.Goals as goal

pub returns : goal.returns
returns c = rw (c.is_flagged.ensures, c.kind-kind.ensures, c.parent-owner.ensures) refl
