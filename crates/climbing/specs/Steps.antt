-- A step of the climb from a row outward, and what it writes to a path.
use Rattle.std.specs.Prelude.{ℕ, ◌-◌, ◌≤◌, ◌<◌, List, ◌++◌, ◌≡◌, length, take}
use Rattle.rules.specs.Table.{nodes}
use Rattle.rules.specs.Lookups.{elements_from}

-- The first places of the path, so many, and then these rows, as many as the path has room for.
abbrev pub path_with : List ℕ → ℕ → List ℕ → List ℕ
path_with path count rows = take count path ++ take (length path - count) rows

-- One step of the climb from row r, with so many places of the path taken: it goes on to a lower row, for which a place is left, or it ends.
pub record Stepped (table path : List ℕ) (r count : ℕ) (after : List ℕ) (next taken : ℕ) : Type 0 where
  pub room : taken ≤ length after
  pub onward :
      next < r → (taken < length after) × ((pool : List ℕ) → path_with after taken (elements_from (nodes table pool) next) ≡ path_with path count (elements_from (nodes table pool) r))
  pub ended : r ≤ next → (pool : List ℕ) → take taken after ≡ path_with path count (elements_from (nodes table pool) r)
