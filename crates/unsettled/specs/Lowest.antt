-- The lowest row of a table that meets a test, and the test of a name.
use Rattle.std.specs.Prelude.{ℕ, ◌<◌, ◌≡◌, Bool, true, false, ◌&&◌, not, List, eqb, get_or}
use Rattle.rules.specs.Table.{Node, node}
use Rattle.rules.specs.Demands.{is_bound, means}

-- Of n rows, none before row r meets a test.
abbrev pub NoneBefore : (ℕ → Bool) → ℕ → ℕ → Type 0
NoneBefore test n r = (q : ℕ) → q < r → q < n → test q ≡ false

-- Of n rows, row r is the lowest that meets a test, or none does and r is none of them.
pub record Lowest (test : ℕ → Bool) (n r : ℕ) : Type 0 where
  pub before : NoneBefore test n r
  pub there : r < n → test r ≡ true

-- Row r is flagged, is an element or an owned attribute, and does not mean its URI in scope.
abbrev pub unmeant : List Node → List ℕ → ℕ → Bool
unmeant ns flags r = eqb (get_or flags r 0) 1 && (is_bound (node ns r) && not (means ns r))
