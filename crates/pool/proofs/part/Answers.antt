-- `part` meets its contract.
use Prim.Native.Nat.{◌+◌, ◌-◌}
use mathlib.Core.Path.{refl}
use native.Mathlib.Omega.{arith}
use Rattle.pool.proofs.Standing.{part-within}
use Rattle.pool.proofs.part.Goals as goal

pub returns : goal.returns
returns c =
    let start = c.least-start.result in
    let size = c.least-size.result in record { result_value = part-within c.args.pool.now c.args.offset.0 c.args.length start (start + size - start) (omega arith) (omega arith); stands_at = record { block = refl; place = omega arith } }
