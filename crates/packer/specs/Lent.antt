-- The arrays that packing is lent: those of the check, the index of the packed names and their marks.
use Rattle.std.specs.Prelude.{ℕ, ◌+◌, ◌*◌, ◌≤◌, ◌<◌, ◌≡◌, List, length}
use Rattle.rules.specs.Table.{MOST_ROWS, MOST_BYTES, row_count}
use Rattle.checker.specs.Lent as C
use Rattle.packed_index.specs.Index.{ENTRIES, WIDTH}
use Rattle.packed_table.specs.Packed.{Blank}

pub record Lent (table dictionary notes index starts : List ℕ) : Type 0 where
  pub numbering : C.Lent table dictionary notes
  pub blank : Blank index starts
  pub entries : row_count table ≤ MOST_ROWS → ENTRIES + WIDTH * (4 * row_count table + 1) ≤ length index
  pub numbers : row_count table ≤ MOST_ROWS → 3 * row_count table < length starts

-- How many bytes a packed pool may have in an output of so many: as many as that, and no more than a pool may.
pub record Limit (bytes limit : ℕ) : Type 0 where
  pub room : limit ≤ bytes
  pub most : limit ≤ MOST_BYTES
  pub least : (bytes ≤ limit → ⊥) → limit ≡ MOST_BYTES
