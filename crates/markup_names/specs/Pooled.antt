-- Where the fields of a table lie while names are put.
use Rattle.std.specs.Prelude.{ℕ, ◌+◌, ◌≤◌, ◌<◌, List, length}
use Rattle.rules.specs.Table.{PREFIX, LOCAL_NAME, URI, VALUE, row_count, word}

-- The field of row r whose offset is this word lies in the pool.
abbrev pub InPool : List ℕ → List ℕ → ℕ → ℕ → Type 0
InPool table pool r field = word table r field + word table r (field + 1) ≤ length pool

-- All fields of all rows lie in the pool.
pub record Pooled (table pool : List ℕ) : Type 0 where
  pub prefix : (r : ℕ) → r < row_count table → InPool table pool r PREFIX
  pub local : (r : ℕ) → r < row_count table → InPool table pool r LOCAL_NAME
  pub uri : (r : ℕ) → r < row_count table → InPool table pool r URI
  pub value : (r : ℕ) → r < row_count table → InPool table pool r VALUE
