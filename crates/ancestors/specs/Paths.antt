-- Elements of a table, and paths of them.
use Rattle.std.specs.Prelude.{ℕ, ◌≤◌, ◌<◌, true, List, ◌≡◌, length, get_or}
use Rattle.rules.specs.Table.{TYPE, row_count, word, is_element}

-- Row e is an element of the table.
pub record Element (table : List ℕ) (e : ℕ) : Type 0 where
  pub within : e < row_count table
  pub type : is_element (word table e TYPE) ≡ true

-- The first places of the path, so many, hold elements of the table.
pub record PathOf (table path : List ℕ) (count : ℕ) : Type 0 where
  pub room : count ≤ length path
  pub each : (i : ℕ) → i < count → Element table (get_or path i 0)
