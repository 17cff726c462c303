-- A path: a list of elements, an element and the elements outward from it, along which declarations are asked for.
use Rattle.std.specs.Prelude.{ℕ, ◌*◌, ◌≤◌, ◌<◌, List, length, get_or}
use Rattle.rules.specs.Table.{MOST_ROWS, row_count}
use Rattle.notes.specs.Notes.{NOTES}
use Rattle.ancestors.specs.Paths.{Element}
use Rattle.scopes.specs.Standing.{Linked}

-- There are notes for all rows, with the links of the declarations.
pub record Ready (table notes : List ℕ) : Type 0 where
  pub few : row_count table ≤ MOST_ROWS
  pub noted : NOTES * row_count table ≤ length notes
  pub linked : Linked table notes (row_count table)

-- And each row of the path is an element of the table.
pub record Along (table notes path : List ℕ) : Type 0 where
  pub ready : Ready table notes
  pub elements : (i : ℕ) → i < length path → Element table (get_or path i 0)
