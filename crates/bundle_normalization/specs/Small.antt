-- Small bundles.
use Rattle.std.specs.Prelude.{ℕ, ◌+◌, ◌*◌, ◌≤◌, List, length}
use Rattle.table_size.specs.Small.{FEW_ROWS, FEW_BYTES}
use Rattle.bundles.specs.Bundles.{HEADER, bundle_pool_length}
use Rattle.bundles.specs.Opening.{NamesAtMost}

-- The bytes of its working pool: an NS prefix for each of its rows.
abbrev pub FEW_WORK : ℕ
FEW_WORK = FEW_BYTES + 6 * FEW_ROWS

-- The bytes name few rows and a short pool. Bytes that end before the rows name none of either.
pub record Small (bytes : List ℕ) : Type 0 where
  pub few : NamesAtMost bytes FEW_ROWS
  pub short : HEADER ≤ length bytes → bundle_pool_length bytes ≤ FEW_BYTES
