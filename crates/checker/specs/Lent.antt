-- The arrays that are lent to the check: the dictionary of the names, and the notes of the rows.
use Rattle.std.specs.Prelude.{ℕ, ◌*◌, ◌≤◌, ◌≡◌, List, length, replicate}
use Rattle.rules.specs.Table.{MOST_ROWS, row_count}
use Rattle.notes.specs.Notes.{NOTES}
use Rattle.row_checks.specs.Arrays.{dictionary_words}

-- The dictionary is cleared, and there are words enough. A table that is refused for its size needs none.
pub record Lent (table dictionary notes : List ℕ) : Type 0 where
  pub cleared : dictionary ≡ replicate (length dictionary) 0
  pub words : row_count table ≤ MOST_ROWS → dictionary_words (row_count table) ≤ length dictionary
  pub records : row_count table ≤ MOST_ROWS → NOTES * row_count table ≤ length notes
