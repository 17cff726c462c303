-- The loop of the pass: what holds before row r, of those from the first on.
-- Assumes nothing.
use Prim.Native.Nat.{ℕ, ◌≤◌, ◌<◌}
use mathlib.Core.Path.{◌≡◌}
use mathlib.Core.List.{List}
use Rattle.notes.specs.Notes.{NOTES, LATEST, note_at}
use Rattle.fast_path.specs.Passing.{Reached, Passed}

pub record Going (table pool dictionary notes₀ chains₀ : List ℕ) (first : ℕ) (notes chains : List ℕ) (r : ℕ) : Type 0 where
  pub reached : Reached table pool dictionary notes chains r
  pub onward : first ≤ r
  pub passed : (q : ℕ) → first ≤ q → q < r → Passed table pool q
  pub kept : (q k : ℕ) → LATEST ≤ k → k < NOTES → note_at notes q k ≡ note_at notes₀ q k
