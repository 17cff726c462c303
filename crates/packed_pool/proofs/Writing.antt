-- Bytes of a name are written from a place on, some of them perhaps again.
-- Assumes nothing.
use Prim.Native.Nat.{ℕ, ◌+◌, ◌≤◌, ◌<◌}
use mathlib.Core.Path.{◌≡◌, refl, sym, ◌∙◌, ap}
use mathlib.Core.List.{List, ◌++◌}
use native.Mathlib.Omega.{arith}
use borrow.Author.Tests.{ltb-true, ltb-false}
use lib.Dec.{ltb}
use lib.ListN.{length, get_or, set, take, drop, length-append, get_or-append}
use lib.Seq.{length-take-le, get_or-append-add, get_or-take, set-get_or, paste}
use Rattle.rules.proofs.Lists.{by_cases}
use Rattle.buffers.specs.Writes.{written}
use Rattle.buffers.proofs.Writes.{write_step, write-end}
use Rattle.packed_pool.specs.Marking.{Begun}

module _ (whole : List ℕ) (at : ℕ) (l : List ℕ) (room : at + length l ≤ length whole) where
  -- A byte that is written stands there.
  pasted : (c j : ℕ) → j < c → c ≤ length l → get_or (paste whole at l c) (at + j) 0 ≡ get_or l j 0
  pasted c j h k =
      let front = take at whole in
      let n : length front ≡ at = length-take-le at whole (omega arith) in
      let m : length (take c l) ≡ c = length-take-le c l k in
      let size : length (front ++ take c l) ≡ at + c = length-append front (take c l) ∙ rw (n, m) refl in
      let place : at + j ≡ length front + j = ap (λ (i : ℕ). i + j) (sym n) in
      get_or-append (front ++ take c l) (drop (at + c) whole) 0 (at + j) (omega arith)
      ∙ ap (λ (i : ℕ). get_or (front ++ take c l) i 0) place
      ∙ get_or-append-add front (take c l) j 0
      ∙ get_or-take c l j 0 h

  next : {t : List ℕ} (j : ℕ) → j < length l → Begun whole at l j t → Begun whole at l (j + 1) (set t (at + j) (get_or l j 0))
  next {t} j h b =
      let enough = b.enough in
      by_cases (ltb j b.count)
      (λ q.
      let before = ltb-true j b.count q in
      let same : get_or t (at + j) 0 ≡ get_or l j 0 = rw b.bytes (pasted b.count j before b.within) in
      record { count = b.count; enough = omega arith; within = b.within; bytes = ap (set t (at + j)) (sym same) ∙ set-get_or t (at + j) 0 ∙ b.bytes })
      (λ q.
      let last : b.count ≡ j = (let d = ltb-false j b.count q in omega arith) in
      record { count = j + 1; enough = omega arith; within = omega arith; bytes = write_step whole t at l j (b.bytes ∙ ap (paste whole at l) last) room h })

  pub four :
      {t : List ℕ} (i : ℕ) → i + 4 ≤ length l → Begun whole at l i t
      → Begun whole at l (i + 4) (set (set (set (set t (at + i) (get_or l i 0)) (at + i + 1) (get_or l (i + 1) 0)) (at + i + 2) (get_or l (i + 2) 0)) (at + i + 3) (get_or l (i + 3) 0))
  four i h b =
      let p₁ : at + i + 1 ≡ at + (i + 1) = omega arith in
      let p₂ : at + i + 2 ≡ at + (i + 2) = omega arith in
      let p₃ : at + i + 3 ≡ at + (i + 3) = omega arith in
      let n₂ : i + 1 + 1 ≡ i + 2 = omega arith in
      let n₃ : i + 2 + 1 ≡ i + 3 = omega arith in
      let n₄ : i + 3 + 1 ≡ i + 4 = omega arith in
      let b₁ = next i (omega arith) b in
      let b₂ = rw n₂ at (next (i + 1) (omega arith) b₁) in
      let b₃ = rw n₃ at (next (i + 2) (omega arith) b₂) in
      rw (p₁, p₂, p₃) (rw n₄ at (next (i + 3) (omega arith) b₃))

  pub begun-less : {t : List ℕ} {i : ℕ} (j : ℕ) → j ≤ i → Begun whole at l i t → Begun whole at l j t
  begun-less j h b = let enough = b.enough in record { count = b.count; enough = omega arith; within = b.within; bytes = b.bytes }

  pub begun_all : {t : List ℕ} {i : ℕ} → length l ≤ i → Begun whole at l i t → t ≡ written whole at l
  begun_all {t} h b = let enough = b.enough in write-end whole t at l b.count b.bytes b.within (omega arith)
