-- The attributes of each element in row order: the notes of an element have the position of its first attribute, those of an
-- attribute the position of its owner's next one.
use Rattle.std.specs.Prelude.{ℕ, suc, ◌-◌, ◌≤◌, ◌<◌, Bool, true, false, cond, ◌&&◌, List, ◌≡◌, ◌⊎◌, eqb}
use Rattle.rules.specs.Table.{NONE, TYPE, PARENT, ATTRIBUTE, word}
use Rattle.notes.specs.Notes.{FIRST, NEXT, note_at}

-- Row j of the table is of this type and e owns it.
unfoldable pub owned : List ℕ → ℕ → ℕ → ℕ → Bool
owned table type e j = eqb (word table j TYPE) type && eqb (word table j PARENT) e

module _ (test : ℕ → Bool) where
  -- No number from a up to b passes.
  abbrev pub Clear : ℕ → ℕ → Type 0
  Clear a b = (k : ℕ) → a ≤ k → k < b → test k ≡ false

  -- s is the first number from i up to n that passes, or NONE.
  abbrev pub Sought : ℕ → ℕ → ℕ → Type 0
  Sought n i s = ((s ≡ NONE) × Clear i n) ⊎ ((i ≤ s) × (s < n) × (test s ≡ true) × Clear i s)

-- the row at a position, NONE at 0
unfoldable pub row_of : ℕ → ℕ
row_of position = cond (eqb position 0) NONE (position - 1)

-- The attributes among the rows from i to n are linked.
pub record LinkedFrom (table notes : List ℕ) (n i : ℕ) : Type 0 where
  pub firsts : (e : ℕ) → e < n → Sought (owned table ATTRIBUTE e) n i (row_of (note_at notes e FIRST))
  pub nexts : (e j : ℕ) → e < n → i ≤ j → j < n → owned table ATTRIBUTE e j ≡ true → Sought (owned table ATTRIBUTE e) n (suc j) (row_of (note_at notes j NEXT))

-- The words of all rows before word k are the same.
abbrev pub SameBefore : ℕ → List ℕ → List ℕ → Type 0
SameBefore k notes notes' = (r j : ℕ) → j < k → note_at notes' r j ≡ note_at notes r j
