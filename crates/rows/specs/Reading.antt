-- What is read of a row of a table, and a row that may be missing.
use Rattle.std.specs.Prelude.{ℕ, ◌+◌, ◌<◌, cond, List, length, ltb}
use Rattle.std.proofs.Math.Option.{Option, none, some}
use Rattle.rules.specs.Table.{WIDTH, NONE, Node, node, row_count, word}
use Rattle.rules.specs.declared.Place.{Place}

-- The table has the row, and a row has the field: the word of its offset, and the word after it.
abbrev pub HasField : List ℕ → ℕ → ℕ → Type 0
HasField table r field = (r < row_count table) × (field + 1 < WIDTH)

-- The place of the field of row r whose offset is this word.
abbrev pub place_at : List ℕ → ℕ → ℕ → Place
place_at table r field = record { offset = record { 0 = word table r field }; length = word table r (field + 1) }

-- A row that may be missing, as a number: NONE is no row.
abbrev pub row_or : Option ℕ → ℕ
row_or none = NONE
row_or (some r) = r

-- The row of this number, if the table has it.
unfoldable pub found : List Node → ℕ → Option Node
found ns r = cond (ltb r (length ns)) (some (node ns r)) none
