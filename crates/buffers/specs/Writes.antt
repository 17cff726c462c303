-- What the writes leave in a lent buffer. A buffer keeps its length.
use Rattle.std.specs.Prelude.{ℕ, ◌+◌, ◌-◌, ◌*◌, ◌≤◌, ◌<◌, ◌≡◌, List, [], ◌++◌, length, take, drop, set, replicate}
use Rattle.rules.specs.Table.{WIDTH, Field, part, words_of}
use Rattle.rules.specs.Normalization.{new_declaration}
use Rattle.rules.specs.declared.Place.{Place}

-- the buffer with a list written from an index on
abbrev pub written : List ℕ → ℕ → List ℕ → List ℕ
written buffer at l = take at buffer ++ l ++ drop (at + length l) buffer

-- the buffer with 0 from an index on
abbrev pub cleared : List ℕ → ℕ → List ℕ
cleared buffer from = take from buffer ++ replicate (length buffer - from) 0

-- the table with the field of row r whose offset is word k set to a place of the pool
abbrev pub placed : List ℕ → ℕ → ℕ → Place → List ℕ
placed table r k place = set (set table (WIDTH * r + k) place.offset.0) (WIDTH * r + k + 1) place.length

-- the field at a place of the pool
abbrev pub field_in : List ℕ → Place → Field
field_in pool place =
    record { offset = place.offset.0; size = place.length; bytes = part pool place.offset.0 place.length }

-- the words of a new declaration: its owner and its maker, and the places of the declared prefix and of the URI; no pool matters
abbrev pub declaration_words : ℕ → ℕ → Place → Place → List ℕ
declaration_words owner maker prefix uri = words_of (new_declaration owner maker (field_in [] prefix) (field_in [] uri))

-- A list put from an index on, behind what stands there: if it fits, where it ends, and the buffer up to there; what is behind that
-- may have changed. If it does not fit, what is answered is past the buffer's end, and nothing else is told.
pub record Put (buffer : List ℕ) (at : ℕ) (l : List ℕ) (end : ℕ) (buffer' : List ℕ) : Type 0 where
  pub size : length buffer' ≡ length buffer
  pub fits : at + length l ≤ length buffer → (end ≡ at + length l) × (take end buffer' ≡ take at buffer ++ l)
  pub past : length buffer < at + length l → length buffer < end
