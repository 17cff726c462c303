-- Which rows are in the subtree of an element, a word for each row.
use Rattle.std.specs.Prelude.{ℕ, ◌<◌, ◌≡◌, Bool, true, false, List, get_or}
use Rattle.rules.specs.Table.{nodes}
use Rattle.markup.specs.Writing.{in_subtree}

abbrev pub flag_of : Bool → ℕ
flag_of true = 1
flag_of false = 0

-- The first n rows have their words.
abbrev pub Flagged : List ℕ → List ℕ → ℕ → ℕ → Type 0
Flagged table flags e n = (pool : List ℕ) (q : ℕ) → q < n → get_or flags q 0 ≡ flag_of (in_subtree (nodes table pool) e q)
