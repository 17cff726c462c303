-- Parts of a pool in which no forbidden character starts, and what is known of each block.
use Rattle.std.specs.Prelude.{ℕ, ◌*◌, ◌≤◌, ◌<◌, ◌≡◌, false, List, length, get_or, drop}
use Rattle.characters.specs.Characters.{starts_forbidden}

abbrev pub BLOCK : ℕ
BLOCK = 256

abbrev pub WORDS : ℕ
WORDS = 129

-- No forbidden character starts from i up to e.
abbrev pub Clean : List ℕ → ℕ → ℕ → Type 0
Clean pool i e = (p : ℕ) → i ≤ p → p < e → starts_forbidden (drop p pool) ≡ false

-- So it is from the start of each block up to its word.
abbrev pub Reached : List ℕ → List ℕ → Type 0
Reached pool reaches = (k : ℕ) → BLOCK * k ≤ length pool → Clean pool (BLOCK * k) (get_or reaches k 0)
