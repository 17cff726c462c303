-- The names of a row have their numbers.
use Rattle.std.specs.Prelude.{ℕ, ◌+◌, ◌*◌, ◌≤◌, ◌<◌, ◌≡◌, List, length}
use Rattle.rules.specs.Table.{MOST_BYTES, Node, field_at}
use Rattle.notes.specs.Notes.{NOTES, note_at, noted}
use Rattle.numbers.specs.Numbers.{Names}
use Rattle.numbers.specs.Noted.{NodeNumbered}
use Rattle.entries.specs.Entries.{NAMES, WIDTH}
use Rattle.dictionary.specs.Dictionary.{PLACES, last_of, spelling, Dictionary}

-- There is room for so many more numbers.
pub record HasRoom (dictionary : List ℕ) (more : ℕ) : Type 0 where
  pub words : PLACES + NAMES + WIDTH * (last_of dictionary + more + 1) ≤ length dictionary
  pub small : last_of dictionary + more ≤ 65535

-- The field lies in a pool that is not too long.
pub record Inside (table pool : List ℕ) (r field : ℕ) : Type 0 where
  pub small : length pool ≤ MOST_BYTES
  pub within : (field_at table pool r field).offset + (field_at table pool r field).size ≤ length pool

-- The bytes have got their number, which is noted as word k of row r; what had a number keeps it, and there are up to so many
-- numbers more.
pub record FieldNumbered (before notes after noted' pool : List ℕ) (r k : ℕ) (bytes : List ℕ) (more : ℕ) : Type 0 where
  pub right : Dictionary after pool
  pub names : Names (spelling after pool) (last_of after) (note_at noted' r k) bytes
  pub kept : (m : ℕ) (other : List ℕ) → Names (spelling before pool) (last_of before) m other → Names (spelling after pool) (last_of after) m other
  pub few : last_of after ≤ last_of before + more
  pub wrote : noted' ≡ noted notes r k (note_at noted' r k)

-- All names of a row have got their numbers.
pub record RowNumbered (before notes after noted' pool : List ℕ) (r : ℕ) (n : Node) : Type 0 where
  pub right : Dictionary after pool
  pub numbered : NodeNumbered noted' (spelling after pool) (last_of after) r n
  pub kept : (m : ℕ) (other : List ℕ) → Names (spelling before pool) (last_of before) m other → Names (spelling after pool) (last_of after) m other
  pub few : last_of after ≤ last_of before + 3
  pub others : (q j : ℕ) → j < NOTES → (q ≡ r → j < 4 → ⊥) → note_at noted' q j ≡ note_at notes q j
