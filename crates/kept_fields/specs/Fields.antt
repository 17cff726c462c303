-- The rows of two tables that are not refused: where their fields lie, and the numbers of their names.
use Rattle.std.specs.Prelude.{ℕ, ◌+◌, ◌*◌, ◌≤◌, ◌<◌, ◌≡◌, List, []}
use Rattle.rules.specs.Table.{MOST_ROWS, TYPE, LOCAL_NAME, URI, VALUE, TEXT, row_count, word, field_at}
use Rattle.pairs.specs.Pairs.{Within}
use Rattle.name_pairs.specs.Noted.{Noted}
use Rattle.name_pairs.specs.Met.{Met}

-- There are no more rows than a table may have, the value of each lies within the pool, and a text has no name.
pub record Placed (table pool : List ℕ) : Type 0 where
  pub few : row_count table ≤ MOST_ROWS
  pub within : (r : ℕ) → r < row_count table → Within pool (word table r VALUE) (word table r (VALUE + 1))
  pub nameless : (r : ℕ) → r < row_count table → word table r TYPE ≡ TEXT → ((field_at table pool r LOCAL_NAME).bytes ≡ []) × ((field_at table pool r URI).bytes ≡ [])

-- The names of both tables have numbers, and pairs of those are known.
pub record Meeting (original pool mine proposal other theirs met : List ℕ) : Type 0 where
  pub first : Noted original pool mine
  pub second : Noted proposal other theirs
  pub known : Met met first.spelling second.spelling

-- Note k of a row is the number of this field.
abbrev pub IsName : ℕ → ℕ → Type 0
IsName k field = (k < 3) × (field ≡ 2 * k + 2)
