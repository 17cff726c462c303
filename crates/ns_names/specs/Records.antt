-- Records of four words, of which the last is the number of a name.
use Rattle.std.specs.Prelude.{ℕ, ◌+◌, ◌*◌, ◌%◌, ◌≤◌, ◌<◌, ◌≡◌, cond, ◌&&◌, List, ltb, length, get_or, set}
use Rattle.rules.specs.Normalization.{numbered_prefix}
use Rattle.numbers.specs.Numbers.{number_in}

abbrev pub RECORD : ℕ
RECORD = 4

abbrev pub NUMBERED : ℕ
NUMBERED = 3

-- the number in record k
abbrev pub numbered_at : List ℕ → ℕ → ℕ
numbered_at records k = get_or records (RECORD * k + NUMBERED) 0

-- the records with a number in record k, if there is one and k is not 0
unfoldable pub entered : List ℕ → ℕ → ℕ → List ℕ
entered records k number = cond (ltb 0 k && ltb (RECORD * k + NUMBERED) (length records)) (set records (RECORD * k + NUMBERED) number) records

-- The number in record k is that of the name NSk, or 0 where no number up to the last is; all other words are as they were.
pub record Entered (spelling : ℕ → List ℕ) (last : ℕ) (before after : List ℕ) : Type 0 where
  pub numbers : (k : ℕ) → 1 ≤ k → k < 10000 → RECORD * k + NUMBERED < length after → numbered_at after k ≡ number_in spelling last (numbered_prefix k)
  pub others : (i : ℕ) → (i % RECORD ≡ NUMBERED → ⊥) → get_or after i 0 ≡ get_or before i 0
