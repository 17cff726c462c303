-- Good names of ASCII.
use Rattle.std.specs.Prelude.{ℕ, Bool, ◌&&◌, ◌||◌, not, List, eqb, get_or}
use Rattle.rules.specs.Lists.{all_of, is_empty}
use Rattle.rules.specs.Refusals.{is_between}

-- a letter or _
abbrev pub is_plain_first : ℕ → Bool
is_plain_first b = is_between 97 122 b || is_between 65 90 b || eqb b 95

-- and what may follow: a digit, - or . too
abbrev pub is_plain_byte : ℕ → Bool
is_plain_byte b = is_plain_first b || is_between 48 57 b || eqb b 45 || eqb b 46

-- The name is not empty, and good in ASCII.
unfoldable pub is_plain : List ℕ → Bool
is_plain name = not (is_empty name) && is_plain_first (get_or name 0 0) && all_of is_plain_byte name
