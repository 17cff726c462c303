-- The numbers that are noted of a proposal's names.
-- Assumes nothing.
use Prim.Native.Nat.{ℕ, ◌≤◌}
use mathlib.Core.Path.{refl}
use mathlib.Core.List.{List, []}
use native.Mathlib.Omega.{arith}
use borrow.Author.Tests.{eq-eqb}
use Rattle.rules.specs.Table.{row_count}
use Rattle.beginning.specs.Ground.{Ground}
use Rattle.name_pairs.specs.Noted.{Noted}

-- Where a lookup has begun, all names have their numbers.
pub ground-noted : (table pool : List ℕ) (r : ℕ) (notes : List ℕ) (number : ℕ) (name : List ℕ) → Ground table pool r notes number name → Noted table pool notes
ground-noted table pool r notes number name ground =
    let meant = ground.meant in
    record {
      spelling = meant.spelling;
      last = meant.last;
      few = meant.few;
      records = ground.unlinked.noted;
      numbered = meant.numbered;
    }

-- A table without rows has no names.
pub empty-noted : (table pool notes : List ℕ) → row_count table ≤ 0 → Noted table pool notes
empty-noted table pool notes empty =
    record {
      spelling = λ n. [];
      last = 0;
      few = omega arith;
      records = omega (arith, empty);
      numbered = record { spelled = record { empty = refl; distinct = λ m n i j. eq-eqb m n (omega (arith, i, j)) }; rows = λ r l. absurd (omega (arith, l, empty)) };
    }
