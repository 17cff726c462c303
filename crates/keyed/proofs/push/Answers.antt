-- `keyed::push` meets its contract.
use native.Mathlib.Omega.{arith}
use Rattle.keyed.proofs.Sums.{product, told}
use Rattle.keyed.proofs.push.Goals as goal

pub overflow_mul-result : goal.overflow_mul-result
overflow_mul-result c = let p = product c.args.h c.args.base (omega arith) (omega arith) in omega arith

pub overflow_add-result : goal.overflow_add-result
overflow_add-result c = let p = product c.args.h c.args.base (omega arith) (omega arith) in omega arith

pub returns : goal.returns
returns c = let all = told c.args.base c.args.h c.args.term in record { value = all.0; upper_bound = all.1 }
