-- The room for any result of so many rows and bytes, and the dictionary that is lent.
-- Assumes nothing.
use Prim.Native.Nat.{ℕ, ◌*◌, ◌≤◌}
use mathlib.Core.Path.{◌≡◌}
use mathlib.Core.List.{List}
use native.Mathlib.Omega.{arith}
use lib.ListN.{length, take, replicate}
use lib.Seq.{length-take-le}
use Rattle.rules.specs.Table.{WIDTH, row_count}
use Rattle.row_checks.specs.Arrays.{dictionary_words}
use Rattle.checker.specs.Lent as checking
use Rattle.input.specs.Lent.{Blank}
use Rattle.input.proofs.Numbered.{zeros-numbering}
use Rattle.normal_form.specs.Result.{RoomFor}
use Rattle.normal_form.proofs.Start.{blank_part}

module _ {words work : List ℕ} {rows bytes : ℕ} (room : RoomFor words work rows bytes) where
  pub part-fits : WIDTH * rows ≤ length words
  part-fits = omega (arith, room.few, room.table_room)

  pub front_fits : bytes ≤ length work
  front_fits = omega (arith, room.pool_room)

  part_count : row_count (take (WIDTH * rows) words) ≡ rows
  part_count = let l = length-take-le (WIDTH * rows) words part-fits in omega arith

  -- A dictionary of zeros is one to lend.
  pub numbering : (most : ℕ) → rows ≤ most → {notes path : List ℕ} → Blank rows notes path → checking.Lent (take (WIDTH * rows) words) (replicate (dictionary_words most) 0) notes
  numbering most few {notes} {path} blank =
      zeros-numbering (take (WIDTH * rows) words) notes path most (λ _. omega (arith, part_count, few)) (blank_part words rows part-fits blank)
