-- The arrays of a scope before a table is walked through.
use Rattle.std.specs.Prelude.{ℕ, ◌+◌, ◌*◌, ◌≤◌, ◌≡◌, List, length, get_or}
use Rattle.rules.specs.Table.{MOST_ROWS, row_count}
use Rattle.stacks.specs.Stacks.{TOPS}

-- They are cleared, and there is room for the rows and the numbers of their names.
pub record Cleared (table tops path : List ℕ) : Type 0 where
  pub unstacked : (i : ℕ) → get_or tops i 0 ≡ 0
  pub unplaced : (i : ℕ) → get_or path i 0 ≡ 0
  pub topped : row_count table ≤ MOST_ROWS → TOPS * (3 * row_count table) + TOPS ≤ length tops
  pub placed : row_count table ≤ MOST_ROWS → 4 * row_count table + 4 ≤ length path
