-- A table whose names have numbers in its notes.
use Rattle.std.specs.Prelude.{ℕ, ◌*◌, ◌≤◌, List, length}
use Rattle.rules.specs.Table.{row_count}
use Rattle.notes.specs.Notes.{NOTES}
use Rattle.numbers.specs.Noted.{Numbered}

-- The names of all rows have their numbers in the notes, for some spelling of the numbers.
pub record Noted (table pool notes : List ℕ) : Type 0 where
  pub spelling : ℕ → List ℕ
  pub last : ℕ
  pub few : last ≤ 3 * row_count table
  pub records : NOTES * row_count table ≤ length notes
  pub numbered : Numbered table pool notes spelling last (row_count table)
