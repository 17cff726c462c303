-- The whole check: its size, its arrays, its rows.
-- Assumes nothing.
use Rattle.std.specs.Prelude.{Err}
use Prim.Native.Nat.{ℕ, ◌+◌, ◌≤◌}
use mathlib.Core.Path.{◌≡◌, ap}
use mathlib.Core.Bool.{true, false}
use mathlib.Core.List.{List}
use native.Mathlib.Omega.{arith}
use lib.ListN.{length, replicate}
use Rattle.rules.specs.Table.{MOST_ROWS, MOST_BYTES, row_count}
use Rattle.rules.specs.Refusals.{bad_size, verdict, check_refusal, checked}
use Rattle.rules.specs.declared.Refusal.{Refusal}
use Rattle.rules.proofs.Refusals.{first_alone}
use Rattle.entries.specs.Entries.{NAMES}
use Rattle.dictionary.specs.Dictionary.{PLACES, last_of, Dictionary}
use Rattle.dictionary.proofs.Laws.{cleared, none-given}
use Rattle.row_checks.specs.Pass.{rows_refusal}
use Rattle.row_checks.specs.Arrays.{Enough}
use Rattle.checker.specs.Lent.{Lent}

-- The arrays that are lent are enough.
pub enough : (table pool dictionary notes : List ℕ) → row_count table ≤ MOST_ROWS → length pool ≤ MOST_BYTES → Lent table dictionary notes → Enough table pool dictionary notes
enough table pool dictionary notes rows bytes l = record { rows = rows; bytes = bytes; words = l.words rows; records = l.records rows }

pub still-enough :
    {table pool dictionary notes after noted : List ℕ} → Enough table pool dictionary notes → length after ≡ length dictionary → length noted ≡ length notes
    → Enough table pool after noted
still-enough e d n = record { rows = e.rows; bytes = e.bytes; words = rw d e.words; records = rw n e.records }

pub has-flag : {table pool dictionary notes : List ℕ} → Enough table pool dictionary notes → (size : ℕ) → size ≡ length dictionary → PLACES + NAMES ≤ size
has-flag e size s = let words = e.words in omega arith

-- A dictionary that is lent is one of the empty name alone.
pub lent-empty : (table pool dictionary notes : List ℕ) → Enough table pool dictionary notes → dictionary ≡ replicate (length dictionary) 0 → Dictionary dictionary pool × (last_of dictionary ≤ 0)
lent-empty table pool dictionary notes e zero =
    let words = e.words in
    (rw zero (cleared (length dictionary) pool (omega arith)), rw zero (none-given (length dictionary)))

-- The whole check.
module _ (table pool : List ℕ) where
  pub check-size : bad_size table pool ≡ true → Err Refusal.Size ≡ checked table pool
  unfolding checked check_refusal
  check-size e = rw e

  pub check-all : bad_size table pool ≡ false → verdict (rows_refusal table pool) ≡ checked table pool
  unfolding checked check_refusal
  check-all e = rw e (ap verdict (first_alone (rows_refusal table pool)))
