-- The arrays that packing a table is lent, and what it leaves in its outputs.
use Rattle.std.specs.Prelude.{ℕ, ◌+◌, ◌*◌, ◌≤◌, ◌<◌, ◌≡◌, Bool, true, false, List, ◌++◌, length, get_or, take}
use Rattle.std.proofs.Math.Option.{none}
use Rattle.rules.specs.Table.{MOST_BYTES, row_count, nodes, words}
use Rattle.rules.specs.Refusals.{check_refusal}
use Rattle.notes.specs.Notes.{NOTES}
use Rattle.numbers.specs.Noted.{Numbered}
use Rattle.tables.specs.Tables.{Tables}
use Rattle.packing.specs.Packing.{packed_form}
use Rattle.packed_index.specs.Index.{ENTRIES, WIDTH}

-- A table that the check accepts, and arrays that are enough: a row has four fields, of which three have numbers.
pub record Enough (table pool notes index starts out_table : List ℕ) (limit : ℕ) : Type 0 where
  pub accepted : check_refusal table pool ≡ none
  pub records : NOTES * row_count table ≤ length notes
  pub entries : ENTRIES + WIDTH * (4 * row_count table + 1) ≤ length index
  pub numbers : 3 * row_count table < length starts
  pub rows : length table ≤ length out_table
  pub limited : limit ≤ MOST_BYTES

-- No name is entered yet.
pub record Blank (index starts : List ℕ) : Type 0 where
  pub unused : (i : ℕ) → get_or index i 0 ≡ 0
  pub unmarked : (i : ℕ) → get_or starts i 0 ≡ 0

-- The numbers of the names of all rows are noted.
pub record Noted (table pool notes : List ℕ) (spelling : ℕ → List ℕ) (last : ℕ) : Type 0 where
  pub few : last ≤ 3 * row_count table
  pub numbered : Numbered table pool notes spelling last (row_count table)

-- All is there to begin with the first row: the output table is a copy, with a rest behind it.
pub record Start (table pool tables notes index starts out_table : List ℕ) (limit : ℕ) (spelling : ℕ → List ℕ) (last : ℕ) (rest : List ℕ) : Type 0 where
  pub enough : Enough table pool notes index starts out_table limit
  pub hashes : Tables tables pool
  pub blank : Blank index starts
  pub noted : Noted table pool notes spelling last
  pub copied : out_table ≡ table ++ rest

-- If it fits, the packed form stands at the start of the outputs, its pool as far as the output has room for it; if not, its pool is
-- longer than it may be, or the names were found to be hard.
pub record TablePacked (table pool out_table out : List ℕ) (limit : ℕ) (hard fits : Bool) (used : ℕ) : Type 0 where
  pub size : fits ≡ true → used ≡ length (packed_form (nodes table pool)).pool
  pub short : fits ≡ true → used ≤ limit
  pub bytes : fits ≡ true → used ≤ length out → take used out ≡ (packed_form (nodes table pool)).pool
  pub rows : fits ≡ true → take (length table) out_table ≡ words (packed_form (nodes table pool)).rows
  pub past : fits ≡ false → hard ≡ false → limit < length (packed_form (nodes table pool)).pool
