-- The rows of an element by links: those that stand in its start tag, and those that stand in its content. Rows are counted from 1
-- here (positions), since 0 is no row.
use Rattle.std.specs.Prelude.{ℕ, zero, suc, ◌+◌, ◌-◌, ◌≤◌, ◌<◌, ◌≡◌, Bool, true, false, cond, ◌&&◌, List, [], ◌∷◌, eqb}
use Rattle.rules.specs.Lists.{filtered, numbers_from, is_one_of}
use Rattle.rules.specs.Table.{TYPE, PARENT, ELEMENT, ATTRIBUTE, TEXT, DECLARATION, word}
use Rattle.notes.specs.Notes.{NOTES, LATEST, FIRST, note_at}

-- The types of the rows that an element owns, and of those in its content.
abbrev pub kinds : Bool → List ℕ
kinds true = ATTRIBUTE ∷ DECLARATION ∷ []
kinds false = ELEMENT ∷ TEXT ∷ []

-- The row at position d is one of these of row e.
abbrev pub is_under : Bool → List ℕ → ℕ → ℕ → Bool
is_under owned table e d = is_one_of (kinds owned) (word table (d - 1) TYPE) && eqb (word table (d - 1) PARENT) e

-- The word of an element's first one; in the word after it each one has the next.
abbrev pub first_word : Bool → ℕ
first_word true = FIRST
first_word false = LATEST

-- the first of count positions from i on that passes the test; 0: none does
unfoldable pub seek : (ℕ → Bool) → ℕ → ℕ → ℕ
seek test zero i = 0
seek test (suc count) i = cond (test i) i (seek test count (suc i))

-- Among n rows, those from row r on are linked, in this word and the one after it.
pub record Listed (test : ℕ → ℕ → Bool) (first : ℕ) (links : List ℕ) (n r : ℕ) : Type 0 where
  pub firsts : (e : ℕ) → e < n → note_at links e first ≡ seek (test e) (n - r) (suc r)
  pub nexts : (e d : ℕ) → e < n → r < d → d ≤ n → test e d ≡ true → note_at links (d - 1) (first + 1) ≡ seek (test e) (n - d) (suc d)

-- those of row e, in row order, from position `at` on; 0: none are left
unfoldable pub rows_from : (ℕ → ℕ → Bool) → ℕ → ℕ → ℕ → List ℕ
rows_from test n e at = cond (eqb at 0) [] (filtered (test e) (numbers_from at (suc n - at)))

-- These links may have changed, and no other word.
abbrev pub Relinked : ℕ → List ℕ → List ℕ → Type 0
Relinked first links links' =
    (r k : ℕ) → k < NOTES → (k ≡ first → ⊥) → (k ≡ first + 1 → ⊥) → note_at links' r k ≡ note_at links r k
