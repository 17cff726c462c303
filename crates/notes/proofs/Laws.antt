-- Reading after writing.
-- Assumes nothing.
use Prim.Native.Nat.{ℕ, ◌+◌, ◌*◌, ◌<◌}
use mathlib.Core.Path.{◌≡◌}
use mathlib.Core.List.{List}
use native.Mathlib.Omega.{arith}
use lib.ListN.{length, length-set}
use lib.Seq.{get_or-set_same, get_or-set_other}
use Rattle.notes.specs.Notes.{NOTES, note_at, noted}

pub length-noted : (notes : List ℕ) (r k value : ℕ) → length (noted notes r k value) ≡ length notes
unfolding noted
length-noted notes r k value = simp length-set

module _ (notes : List ℕ) (r k value : ℕ) where
  -- The word written.
  pub noted-same : NOTES * r + k < length notes → note_at (noted notes r k value) r k ≡ value
  unfolding note_at noted
  noted-same h = get_or-set_same notes (NOTES * r + k) value 0 h

  -- Every other word is kept.
  pub noted_other : (q j : ℕ) → k < NOTES → j < NOTES → (q ≡ r → j ≡ k → ⊥) → note_at (noted notes r k value) q j ≡ note_at notes q j
  unfolding note_at noted
  noted_other q j h i other =
      get_or-set_other notes (NOTES * r + k) (NOTES * q + j) value 0
      (λ e. let p : q ≡ r = omega arith in let s : j ≡ k = omega arith in other p s)
