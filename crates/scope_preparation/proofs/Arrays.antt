-- Arrays that are cleared.
-- Assumes nothing.
use Prim.Native.Nat.{ℕ, zero, suc, ◌+◌, ◌*◌, ◌≤◌}
use mathlib.Core.Path.{◌≡◌, refl, sym, ap}
use mathlib.Core.List.{List}
use lib.ListN.{get_or, replicate, length-replicate}
use Rattle.rules.specs.Table.{MOST_ROWS, row_count}
use Rattle.notes.specs.Notes.{NOTES}
use Rattle.stacks.specs.Stacks.{TOPS}
use Rattle.beginning.specs.Ground.{Blank}
use Rattle.scope_preparation.specs.Arrays.{Cleared}

zeros : (size i : ℕ) → ◌≡◌ {A = ℕ} (get_or (replicate size 0) i 0) 0
zeros zero i = refl
zeros (suc size) zero = refl
zeros (suc size) (suc i) = zeros size i

-- Zeros are cleared arrays.
pub zeros-blank : (table : List ℕ) (a : ℕ) → (row_count table ≤ MOST_ROWS → NOTES * row_count table ≤ a) → Blank table (replicate a 0)
zeros-blank table a room = record { cleared = ap (λ k. replicate k 0) (sym (length-replicate a 0)); records = λ small. rw length-replicate (room small) }

pub zeros-cleared :
    (table : List ℕ) (b c : ℕ) → (row_count table ≤ MOST_ROWS → (TOPS * (3 * row_count table) + TOPS ≤ b) × (4 * row_count table + 4 ≤ c)) → Cleared table (replicate b 0) (replicate c 0)
zeros-cleared table b c room =
    record {
      unstacked = zeros b;
      unplaced = zeros c;
      topped = λ small. rw length-replicate (room small).0;
      placed = λ small. rw length-replicate (room small).1;
    }
