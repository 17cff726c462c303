-- Numbers of two tables' names that were found to stand for the same bytes.
use Rattle.std.specs.Prelude.{ℕ, ◌+◌, ◌≤◌, ◌≡◌, List, length, get_or}

-- One word for each number that a table can give.
abbrev pub WORDS : ℕ
WORDS = 3073

-- Entry n is 0, or m + 1: number n of the first table and number m of the second stand for the same bytes.
pub record Met (met : List ℕ) (spelling spelling' : ℕ → List ℕ) : Type 0 where
  pub words : WORDS ≤ length met
  pub equal : (n m : ℕ) → get_or met n 0 ≡ m + 1 → spelling n ≡ spelling' m
