-- The array that is lent for the fates of the rows.
use Rattle.std.specs.Prelude.{ℕ, ◌≤◌, ◌≡◌, List, length, replicate}
use Rattle.rules.specs.Table.{MOST_ROWS, row_count}

-- It is cleared, and there are words enough. A table that is refused for its size needs none.
pub record FatesLent (table fates : List ℕ) : Type 0 where
  pub cleared : fates ≡ replicate (length fates) 0
  pub words : row_count table ≤ MOST_ROWS → row_count table ≤ length fates
