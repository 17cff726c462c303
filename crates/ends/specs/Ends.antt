-- Ends in a pool: what they tell of it.
use Rattle.std.specs.Prelude.{ℕ, ◌*◌, ◌≤◌, ◌<◌, ◌≡◌, Bool, true, List, length, get_or}
use Rattle.rules.specs.Lists.{all_of}
use Rattle.rules.specs.Refusals.{is_name_byte}
use Rattle.marks.specs.Marks.{between}

abbrev pub BLOCK : ℕ
BLOCK = 256

abbrev pub WORDS : ℕ
WORDS = 130

-- Every byte from i up to e is one of a name.
pub record Reach (colons : Bool) (pool : List ℕ) (i e : ℕ) : Type 0 where
  pub within : e ≤ length pool
  pub named : all_of (is_name_byte colons) (between pool i e) ≡ true

-- So it is from the start of each block up to its end.
abbrev pub Ended : Bool → List ℕ → List ℕ → Type 0
Ended colons pool ends = (k : ℕ) → k < WORDS → Reach colons pool (BLOCK * k) (get_or ends k 0)
