-- The packed pool as it grows: where a name stands in it, and what a new one leaves in the output.
use Rattle.std.specs.Prelude.{ℕ, ◌+◌, ◌≤◌, ◌<◌, ◌≡◌, Bool, false, ◌&&◌, List, ltb, length, get_or, take}
use Rattle.std.proofs.Math.Seq.{paste}
use Rattle.rules.specs.Table.{MOST_BYTES, part}
use Rattle.buffers.specs.Writes.{written}
use Rattle.packing.specs.Packing.{entered, joined}
use Rattle.packed_index.specs.Index.{USED, HARD, count_of, Marks, Index, followed}

-- The place has bytes, and lies in a pool that is not too long.
abbrev pub Within : List ℕ → ℕ → ℕ → Type 0
Within pool offset size = (offset + size ≤ length pool) × (length pool ≤ MOST_BYTES) × (0 < size)

-- The names are hard for the plain hash.
abbrev pub is_hard : List ℕ → Bool
is_hard index = ltb 512 (get_or index HARD 0)

-- The names stand end to end in the first bytes of the output, if it has room for them.
abbrev pub Stands : List ℕ → List (List ℕ) → Type 0
Stands out names = length (joined names) ≤ length out → take (length (joined names)) out ≡ joined names

-- A name has its mark among the names, to which it is entered; or the mark is 0, and the names with it are longer than they may be,
-- unless they were found to be hard and that matters.
pub record Marked (hashed : List ℕ → ℕ) (pool index index' out out' : List ℕ) (limit : ℕ) (easy : Bool) (mark : ℕ) (names : List (List ℕ)) (bytes : List ℕ) : Type 0 where
  pub few : count_of index' ≤ count_of index + 1
  pub right : 0 < mark → Index hashed index' pool (entered names bytes)
  pub is : Marks (entered names bytes) mark bytes
  pub short : 0 < mark → length (joined names) ≤ limit → length (joined (entered names bytes)) ≤ limit
  pub stands : 0 < mark → Stands out names → Stands out' (entered names bytes)
  pub past : mark ≡ 0 → (easy && is_hard index') ≡ false → limit < length (joined (entered names bytes))

-- More is known of places, one of which has this mark, and the same of names.
pub record Noted (pool index index' : List ℕ) (offset size mark : ℕ) : Type 0 where
  pub count : count_of index' ≡ count_of index
  pub hard : get_or index' HARD 0 ≡ get_or index HARD 0
  pub right : (hashed : List ℕ → ℕ) (names : List (List ℕ)) → Index hashed index pool names → Marks names mark (part pool offset size) → Index hashed index' pool names

-- A new name of these bytes has been entered behind the others, or the mark is 0 and it did not fit.
pub record Added (index index' out out' : List ℕ) (offset size hash : ℕ) (bytes : List ℕ) (limit mark : ℕ) : Type 0 where
  pub past : mark ≡ 0 → (index' ≡ index) × (limit < get_or index USED 0 + size)
  pub fits : 0 < mark → (index' ≡ followed index offset size hash) × (mark ≡ get_or index USED 0 + 1) × (get_or index USED 0 + size ≤ limit)
  pub wrote : 0 < mark → get_or index USED 0 + size ≤ length out → out' ≡ written out (get_or index USED 0) bytes

-- At least so many bytes of a name are written over a buffer from a place on, and the rest of it stands as it was.
pub record Begun (buffer : List ℕ) (at : ℕ) (name : List ℕ) (least : ℕ) (buffer' : List ℕ) : Type 0 where
  pub count : ℕ
  pub enough : least ≤ count
  pub within : count ≤ length name
  pub bytes : buffer' ≡ paste buffer at name count
