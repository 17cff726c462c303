-- What the markup of an element is made from: rows by links. A position is a row counted from 1; 0 is no row.
use Rattle.std.specs.Prelude.{ℕ, suc, ◌+◌, ◌-◌, ◌*◌, ◌≤◌, ◌<◌, ◌≡◌, true, false, cond, List, eqb, length}
use Rattle.rules.specs.Table.{MOST_ROWS, row_count}
use Rattle.notes.specs.Notes.{NOTES, LATEST, FIRST}
use Rattle.children.specs.Children.{is_under, Listed}

-- The rows of start tags and contents are linked. What is in an element's content stands behind the element.
pub record Linked (table links : List ℕ) : Type 0 where
  pub few : row_count table ≤ MOST_ROWS
  pub room : NOTES * row_count table ≤ length links
  pub owned : Listed (is_under true table) FIRST links (row_count table) 0
  pub content : Listed (is_under false table) LATEST links (row_count table) 0
  pub later : (e d : ℕ) → e < row_count table → 0 < d → d ≤ row_count table → is_under false table e d ≡ true → e + 1 < d

-- the row at a position
abbrev pub before : ℕ → ℕ
before d = d - 1

-- how many rows there are from a position on; none from 0 on
unfoldable pub left : ℕ → ℕ → ℕ
left n position = cond (eqb position 0) 0 (suc n - position)
