-- The nearest row outward that declares something: what the pass over the rows notes of each.
use Rattle.std.specs.Prelude.{ℕ, ◌+◌, ◌≤◌, ◌<◌, ◌≡◌, Bool, false, ◌||◌, List, eqb}
use Rattle.rules.specs.Table.{TYPE, TEXT, DECLARATION, word, row_count}
use Rattle.stacks.specs.Stacks.{NUMBERED, under_at}
use Rattle.scopes.specs.Standing.{Standing, Ready}

-- The types of rows that hold no rows and own none.
abbrev pub is_leaf : ℕ → Bool
is_leaf type = eqb type TEXT || eqb type DECLARATION

-- Arrays that stand at position n stand at position q.
pub record Near (table notes : List ℕ) (n q : ℕ) : Type 0 where
  pub low : n ≤ row_count table
  pub stands : (tops path : List ℕ) → Ready table notes tops path → Standing table notes tops path n → Standing table notes tops path q

-- What is noted of row r.
abbrev pub near_at : List ℕ → ℕ → ℕ
near_at path r = under_at path NUMBERED (r + 1)

-- The first n rows, but leaves, have such a position noted.
abbrev pub Noted : List ℕ → List ℕ → List ℕ → ℕ → Type 0
Noted table notes path n = (r : ℕ) → r < n → is_leaf (word table r TYPE) ≡ false → Near table notes (near_at path r) (r + 1)
