-- What is known of the pool while markup is put.
use Rattle.std.specs.Prelude.{ℕ, ◌<◌, ◌≡◌, true, List, length, get_or}
use Rattle.rules.specs.Lists.{all_of}
use Rattle.runs.specs.Runs.{is_plain, Known}

-- the word of the marks that is 1 where no byte of the pool is escaped
abbrev pub PLAIN : ℕ
PLAIN = 0

-- Where the marks say so, no byte of the pool is escaped. The lengths of the pool's runs may be known.
pub record Marked (pool marks runs : List ℕ) : Type 0 where
  pub room : PLAIN < length marks
  pub plain : get_or marks PLAIN 0 ≡ 1 → all_of (is_plain true) pool ≡ true
  pub known : Known pool runs
