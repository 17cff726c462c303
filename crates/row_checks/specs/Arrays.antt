-- The arrays that the pass over the rows fills: the dictionary of the names, and the notes of the rows.
use Rattle.std.specs.Prelude.{ℕ, ◌+◌, ◌*◌, ◌≤◌, List, length}
use Rattle.rules.specs.Table.{MOST_ROWS, MOST_BYTES, row_count}
use Rattle.notes.specs.Notes.{NOTES}
use Rattle.numbers.specs.Noted.{Numbered}
use Rattle.entries.specs.Entries.{NAMES, WIDTH}
use Rattle.dictionary.specs.Dictionary.{PLACES, last_of, spelling, Dictionary}

-- how many words a dictionary has for the names of so many rows: a row has up to three
abbrev pub dictionary_words : ℕ → ℕ
dictionary_words rows = PLACES + NAMES + WIDTH * (3 * rows + 1)

-- The arrays are enough for a table of a size that is not refused.
pub record Enough (table pool dictionary notes : List ℕ) : Type 0 where
  pub rows : row_count table ≤ MOST_ROWS
  pub bytes : length pool ≤ MOST_BYTES
  pub words : dictionary_words (row_count table) ≤ length dictionary
  pub records : NOTES * row_count table ≤ length notes

-- The names of all rows have their numbers.
pub record Named (table pool dictionary notes : List ℕ) : Type 0 where
  pub right : Dictionary dictionary pool
  pub few : last_of dictionary ≤ 3 * row_count table
  pub numbered : Numbered table pool notes (spelling dictionary pool) (last_of dictionary) (row_count table)
