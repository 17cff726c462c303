-- `bundle_parts::is_old` meets its contract.
use mathlib.Core.Path.{ap}
use Prim.Native.Nat.{ℕ}
use lib.Dec.{eqb}
use Rattle.bundles.specs.Bundles.{OLD_VERSION, is_old}
use Rattle.bundle_parts.proofs.is_old.Goals as goal

pub returns : goal.returns
unfolding is_old
returns c = ap (λ (n : ℕ). eqb n OLD_VERSION) c.version.ensures
