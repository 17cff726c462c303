-- Zeros are arrays to lend.
-- Assumes nothing.
use Prim.Native.Nat.{ℕ, ◌*◌, ◌≤◌}
use mathlib.Core.Path.{sym, ap}
use mathlib.Core.List.{List}
use native.Mathlib.Omega.{arith}
use lib.ListN.{replicate, length-replicate}
use Rattle.rules.specs.Table.{MOST_ROWS, row_count}
use Rattle.notes.specs.Notes.{NOTES}
use Rattle.row_checks.specs.Arrays.{dictionary_words}
use Rattle.checker.specs.Lent.{Lent}

-- Arrays for so many rows are enough where a table of a size that is not refused has no more.
pub zeros-lent : (table : List ℕ) (most : ℕ) → (row_count table ≤ MOST_ROWS → row_count table ≤ most) → Lent table (replicate (dictionary_words most) 0) (replicate (NOTES * most) 0)
zeros-lent table most few =
    let words = length-replicate {A = ℕ} (dictionary_words most) 0 in
    let records = length-replicate {A = ℕ} (NOTES * most) 0 in
    record {
      cleared = sym (ap (λ (size : ℕ). replicate size 0) words);
      words = λ h. rw words (omega (arith, few h));
      records = λ h. rw records (omega (arith, few h));
    }
