-- Numbers of names: a spelling gives the bytes of each number, and the numbers up to the last are given.
use Rattle.std.specs.Prelude.{ℕ, ◌≤◌, ◌≡◌, List, [], eqb}
use Rattle.rules.specs.Lists.{same_bytes}
use Rattle.chains.specs.Chains.{latest}

-- Number n is given, and stands for these bytes.
pub record Names (spelling : ℕ → List ℕ) (last n : ℕ) (bytes : List ℕ) : Type 0 where
  pub known : n ≤ last
  pub spelled : spelling n ≡ bytes

-- Number 0 is the empty name, and two numbers are equal exactly where their names are.
pub record Spelling (spelling : ℕ → List ℕ) (last : ℕ) : Type 0 where
  pub empty : spelling 0 ≡ []
  pub distinct : (m n : ℕ) → m ≤ last → n ≤ last → eqb m n ≡ same_bytes (spelling m) (spelling n)

-- the number of a name that is not empty; 0: it has none
abbrev pub number_in : (ℕ → List ℕ) → ℕ → List ℕ → ℕ
number_in spelling last name = latest (λ n. same_bytes (spelling n) name) last
