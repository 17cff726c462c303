-- Going through a value, run by run.
use Rattle.std.specs.Prelude.{ℕ, ◌+◌, ◌*◌, ◌≤◌, ◌<◌, ◌≡◌, Bool, cond, not, List, [], ◌∷◌, length, get_or, take, drop}
use mir.Val.{bool_byte}
use Rattle.escapes.specs.Escapes.{is_escaped}

-- The bytes at a value's start that are not escaped, in a text or in quotes.
unfoldable pub run : Bool → List ℕ → List ℕ
run quoted [] = []
run quoted (b ∷ bs) = let rest = run quoted bs in cond (is_escaped quoted b) [] (b ∷ rest)

-- The lengths of the two runs from each byte on. They may be those of longer bytes, of which these are a part.
pub record Measured (bytes runs : List ℕ) : Type 0 where
  pub room : 2 * length bytes ≤ length runs
  pub lengths : (quoted : Bool) (i : ℕ) → i < length bytes → take (get_or runs (2 * i + bool_byte quoted) 0) (drop i bytes) ≡ run quoted (drop i bytes)

-- The lengths of the runs, or nothing.
abbrev pub Known : List ℕ → List ℕ → Type 0
Known bytes runs = (length runs ≡ 0 → ⊥) → Measured bytes runs

abbrev pub is_plain : Bool → ℕ → Bool
is_plain quoted b = not (is_escaped quoted b)
