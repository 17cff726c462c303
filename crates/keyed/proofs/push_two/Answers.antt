-- `keyed::push_two` meets its contract.
use Prim.Native.Nat.{◌<◌}
use native.Mathlib.Omega.{arith}
use Rattle.keyed.specs.Keyed.{PRIME}
use Rattle.keyed.proofs.Sums.{pushed-lt, told-two, square-product, term-product}
use Rattle.keyed.proofs.push_two.Goals as goal

pub overflow_mul-result : goal.overflow_mul-result
overflow_mul-result c =
    let fact : c.args.square < PRIME = rw c.requires.h_bound.1 (pushed-lt c.args.base c.args.base 0) in
    let p = square-product c.args.h c.args.square c.requires.h_bound.0 fact in omega arith

pub overflow_mul-result-2 : goal.overflow_mul-result-2
overflow_mul-result-2 c = let q = term-product c.args.first c.args.base c.requires.first_bound.0 (omega arith) in omega arith

pub overflow_add-result : goal.overflow_add-result
overflow_add-result c =
    let fact : c.args.square < PRIME = rw c.requires.h_bound.1 (pushed-lt c.args.base c.args.base 0) in
    let p = square-product c.args.h c.args.square c.requires.h_bound.0 fact in
    let q = term-product c.args.first c.args.base c.requires.first_bound.0 (omega arith) in
    omega arith

pub overflow_add-result-2 : goal.overflow_add-result-2
overflow_add-result-2 c =
    let fact : c.args.square < PRIME = rw c.requires.h_bound.1 (pushed-lt c.args.base c.args.base 0) in
    let p = square-product c.args.h c.args.square c.requires.h_bound.0 fact in
    let q = term-product c.args.first c.args.base c.requires.first_bound.0 (omega arith) in
    omega arith

pub returns : goal.returns
returns c =
    let all = told-two c.args.base c.args.square c.args.h c.args.first c.args.second c.requires.h_bound.1 in record { value = all.0; upper_bound = all.1 }
