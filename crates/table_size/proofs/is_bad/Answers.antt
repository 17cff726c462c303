-- `is_bad` meets its contract.
use mathlib.Core.Path.{refl}
use Rattle.rules.specs.Refusals.{bad_size}
use Rattle.table_size.proofs.is_bad.Goals as goal

pub returns : goal.returns
unfolding bad_size
returns c = refl
