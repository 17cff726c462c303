-- `has_no_names` meets its contract.
use mathlib.Core.Path.{refl}
use Rattle.packed_rows.proofs.has_no_names.Goals as goal

pub returns : goal.returns
returns c = rw (c.name-prefix.ensures, c.name-local.ensures, c.name-uri.ensures) refl
