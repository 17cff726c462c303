-- `small_bundles::has_many_rows` meets its contract.
use native.Mathlib.Omega.{arith}
use borrow.Author.Tests.{ltb-false}
use Rattle.table_size.specs.Small.{FEW_ROWS}
use Rattle.bundles.proofs.Opening.{named}
use Rattle.small_bundles.proofs.has_many_rows.Goals as goal

pub returns-then-bundle-lt-HEADER : goal.returns-then-bundle-lt-HEADER
returns-then-bundle-lt-HEADER c =
    λ none header. let short = c.if-bundle-lt-HEADER.true in
    omega arith

pub returns : goal.returns
returns c =
    λ few. named c.args.bundle.now c.row_count.result FEW_ROWS (λ header. c.row_count.ensures.0) (ltb-false FEW_ROWS c.row_count.result few)
