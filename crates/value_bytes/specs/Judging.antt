-- What is known of a pool in which values are judged: whether it is all of ASCII, and its marks.
use Rattle.std.specs.Prelude.{ℕ, ◌≤◌, ◌≡◌, Bool, List, length}
use Rattle.rules.specs.Lists.{all_of}
use Rattle.rules.specs.Utf8.{is_ascii}
use Rattle.marks.specs.Marks.{MOST, WORDS, Marked}

pub record Judging (pool marks : List ℕ) (is : Bool) : Type 0 where
  pub ascii : is ≡ all_of is_ascii pool
  pub marked : Marked pool marks
  pub room : WORDS ≤ length marks
  pub small : length pool ≤ MOST
