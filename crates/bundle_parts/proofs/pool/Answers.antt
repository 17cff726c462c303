-- `bundle_parts::pool` meets its contract.
use Prim.Native.Nat.{ℕ, ◌-◌}
use mathlib.Core.Path.{ap, ◌∙◌}
use native.Mathlib.Omega.{arith}
use lib.ListN.{length, take, drop, length-drop}
use lib.Seq.{take_all}
use Rattle.bundles.specs.Bundles.{pool_start, bundle_pool}
use Rattle.bundle_parts.proofs.pool.Goals as goal

pub returns : goal.returns
unfolding bundle_pool
returns c =
    let bundle = c.args.bundle.now in
    let long = length-drop (pool_start bundle) bundle in
    ap (λ (n : ℕ). take (length bundle - n) (drop n bundle)) c.pool_start.ensures.0
    ∙ take_all (length bundle - pool_start bundle) (drop (pool_start bundle) bundle) (omega arith)
