-- Zeros are fates to lend.
-- Assumes nothing.
use Prim.Native.Nat.{ℕ, ◌≤◌}
use mathlib.Core.Path.{sym, ap}
use mathlib.Core.List.{List}
use lib.ListN.{replicate, length-replicate}
use Rattle.rules.specs.Table.{MOST_ROWS, row_count}
use Rattle.salvage_judge.specs.Lent.{FatesLent}

-- Those of so many rows are enough where a table of a size that is not refused has no more.
pub fates-lent : (table : List ℕ) (most : ℕ) → (row_count table ≤ MOST_ROWS → row_count table ≤ most) → FatesLent table (replicate most 0)
fates-lent table most few =
    let long = length-replicate {A = ℕ} most 0 in
    record { cleared = sym (ap (λ (size : ℕ). replicate size 0) long); words = λ h. rw long (few h) }
