-- `hash_keys::stir` meets its contract.
use Prim.Native.Nat.{◌+◌, ◌%◌}
use native.Mathlib.Omega.{arith}
use Rattle.hash_keys.proofs.Stirring.{wide-product}
use Rattle.hash_keys.proofs.stir.Goals as goal

pub overflow_mul-product : goal.overflow_mul-product
overflow_mul-product c =
    let p = wide-product ((c.args.one + c.args.word) % 4294967296) (c.args.two + 1) (omega arith) (omega arith) in omega arith

pub overflow_add-result : goal.overflow_add-result
overflow_add-result c =
    let p = wide-product ((c.args.one + c.args.word) % 4294967296) (c.args.two + 1) (omega arith) (omega arith) in omega arith

pub returns : goal.returns
returns c = (omega arith, omega arith)
