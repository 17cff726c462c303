-- `table_size::has_many_rows` meets its contract.
use native.Mathlib.Omega.{arith}
use borrow.Author.Tests.{ltb-false}
use Rattle.table_size.specs.Small.{FEW_ROWS}
use Rattle.table_size.proofs.has_many_rows.Goals as goal

pub returns : goal.returns
returns c =
    λ few. let small = ltb-false FEW_ROWS c.row_count.result few in
    omega arith
