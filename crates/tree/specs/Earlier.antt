-- The rows before a row: whether one of them is an element under a parent.
use Rattle.std.specs.Prelude.{ℕ, zero, suc, ◌<◌, ◌≡◌, ◌⊎◌, Bool, false, ◌&&◌, ◌||◌, List, eqb}
use Rattle.rules.specs.Table.{NONE, TYPE, PARENT, word, is_element}

-- some number below r passes the test
unfoldable pub any_before : (ℕ → Bool) → ℕ → Bool
any_before test zero = false
any_before test (suc r) = test r || any_before test r

-- Row j is an element, and its parent is p.
unfoldable pub under : List ℕ → ℕ → ℕ → Bool
under table p j = is_element (word table j TYPE) && eqb (word table j PARENT) p

-- The parent of row r is NONE or an earlier row.
abbrev pub ParentBefore : List ℕ → ℕ → Type 0
ParentBefore table r = (word table r PARENT ≡ NONE) ⊎ (word table r PARENT < r)
