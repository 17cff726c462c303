-- A row over the packed pool: its fields are entered, and their offsets are set in a copy of its words.
use Rattle.std.specs.Prelude.{ℕ, ◌+◌, ◌*◌, ◌≤◌, ◌<◌, ◌≡◌, Bool, true, false, cond, ◌&&◌, List, [], ◌∷◌, map, length, get_or, set}
use Rattle.std.proofs.Math.Option.{none}
use Rattle.rules.specs.Lists.{is_empty}
use Rattle.rules.specs.Table as T
use Rattle.rules.specs.Table.{PREFIX, LOCAL_NAME, URI, VALUE, MOST_BYTES, row_count, field_at, node_at}
use Rattle.rules.specs.Refusals.{fields_refusal}
use Rattle.notes.specs.Notes.{NOTES}
use Rattle.numbers.specs.Numbers.{Spelling}
use Rattle.numbers.specs.Noted.{NodeNumbered}
use Rattle.tables.specs.Tables.{hash_in, Tables}
use Rattle.packing.specs.Packing.{entered_all, joined, offset_in}
use Rattle.packed_index.specs.Index.{ENTRIES, WIDTH, count_of, Marks, Index}
use Rattle.packed_pool.specs.Marking.{is_hard, Stands}

-- Row r of a table whose fields are not refused, the numbers of its names noted, and an output table that has the row.
pub record Ready (table pool tables notes out_table : List ℕ) (spelling : ℕ → List ℕ) (last limit r : ℕ) : Type 0 where
  pub row : r < row_count table
  pub small : length pool ≤ MOST_BYTES
  pub fields : fields_refusal (length pool) r (node_at table pool r) ≡ none
  pub records : NOTES * row_count table ≤ length notes
  pub hashes : Tables tables pool
  pub spelled : Spelling spelling last
  pub numbered : NodeNumbered notes spelling last r (node_at table pool r)
  pub limited : limit ≤ MOST_BYTES
  pub room : T.WIDTH * r + T.WIDTH ≤ length out_table

-- The packed pool of these names, with room for so many more; the marks of the names that have numbers are kept beside it.
pub record State (tables pool : List ℕ) (spelling : ℕ → List ℕ) (last limit more : ℕ) (index starts out : List ℕ) (names : List (List ℕ)) : Type 0 where
  pub right : Index (hash_in tables) index pool names
  pub room : ENTRIES + WIDTH * (count_of index + more + 1) ≤ length index
  pub few : count_of index + more ≤ 65535
  pub marks : (n : ℕ) → n ≤ last → Marks names (get_or starts n 0) (spelling n)
  pub given : last < length starts
  pub stands : Stands out names
  pub short : length (joined names) ≤ limit

-- A field by where the word of its offset stands in the table, and its bytes.
abbrev pub field_of : List ℕ → List ℕ → ℕ → ℕ → ℕ × List ℕ
field_of table pool r field = (T.WIDTH * r + field, (field_at table pool r field).bytes)

abbrev pub name_fields : List ℕ → List ℕ → ℕ → List (ℕ × List ℕ)
name_fields table pool r = field_of table pool r PREFIX ∷ field_of table pool r LOCAL_NAME ∷ field_of table pool r URI ∷ []

abbrev pub row_fields : List ℕ → List ℕ → ℕ → List (ℕ × List ℕ)
row_fields table pool r = field_of table pool r PREFIX ∷ field_of table pool r LOCAL_NAME ∷ field_of table pool r URI ∷ field_of table pool r VALUE ∷ []

abbrev pub uses_of : List (ℕ × List ℕ) → List (List ℕ)
uses_of fields = map (λ (f : ℕ × List ℕ). f.1) fields

-- the table with the offset of a field that has bytes
abbrev pub patched : List (List ℕ) → ℕ × List ℕ → List ℕ → List ℕ
patched names f table = cond (is_empty f.1) table (set table f.0 (offset_in names f.1))

unfoldable pub patches : List (List ℕ) → List (ℕ × List ℕ) → List ℕ → List ℕ
patches names [] table = table
patches names (f ∷ fields) table = patches names fields (patched names f table)

-- The fields are entered among the names and their offsets are set; or the names with them are longer than they may be, unless they
-- were found to be hard and that matters.
pub record Packs (tables pool : List ℕ) (spelling : ℕ → List ℕ) (last limit more : ℕ) (index starts out table table' : List ℕ) (easy done : Bool) (names : List (List ℕ)) (fields : List (ℕ × List ℕ)) : Type 0 where
  pub state : done ≡ true → State tables pool spelling last limit more index starts out (entered_all names (uses_of fields))
  pub words : done ≡ true → table' ≡ patches (entered_all names (uses_of fields)) fields table
  pub past : done ≡ false → (easy && is_hard index) ≡ false → limit < length (joined (entered_all names (uses_of fields)))
