-- The arrays that are lent to a lookup that has begun: the notes of the rows, and the path of elements.
use Rattle.std.specs.Prelude.{ℕ, ◌≤◌, ◌<◌, List, length}
use Rattle.rules.specs.Table.{row_count}
use Rattle.beginning.specs.Ground.{Unlinked}

-- The way outward can be gone: the table has row r, its notes have no links yet, and there is a place for every element.
pub record Way (table : List ℕ) (r : ℕ) (notes path : List ℕ) : Type 0 where
  pub unlinked : Unlinked table notes
  pub within : r < row_count table
  pub places : row_count table ≤ length path
