-- `small_bundles::has_long_pool` meets its contract.
use native.Mathlib.Omega.{arith}
use borrow.Author.Tests.{ltb-false}
use Rattle.table_size.specs.Small.{FEW_BYTES}
use Rattle.small_bundles.proofs.has_long_pool.Goals as goal

pub returns-then-bundle-lt-HEADER : goal.returns-then-bundle-lt-HEADER
returns-then-bundle-lt-HEADER c =
    λ none header. let short = c.if-bundle-lt-HEADER.true in
    omega arith

pub returns : goal.returns
returns c =
    λ few header. let small = ltb-false FEW_BYTES c.pool_length.result few in
    omega arith
