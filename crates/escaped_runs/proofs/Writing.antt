-- Laws for the code: a value put run by run.
-- Assumes nothing.
use Prim.Native.Nat.{ℕ, zero, suc, ◌+◌, ◌-◌, ◌≤◌, ◌<◌}
use mathlib.Core.Path.{◌≡◌, refl, sym, ◌∙◌, ap}
use mathlib.Core.Bool.{Bool, true}
use mathlib.Core.List.{List, [], ◌∷◌, ◌++◌}
use native.Mathlib.Nat.{le_of_suc-le-suc, not-suc-le-zero}
use native.Mathlib.Omega.{arith}
use lib.ListN.{length, get_or, take, drop, replicate, length-drop, take-append-drop}
use lib.Seq.{drop-drop, get_or-drop, length-take-le}
use Rattle.buffers.specs.Writes.{written, Put}
use Rattle.buffers.proofs.Writes.{put-nothing, put_front}
use Rattle.escapes.specs.Escapes.{is_escaped, escape, escaped}
use Rattle.escapes.proofs.Asking.{in-quotes}
use Rattle.runs.specs.Runs.{run}
use Rattle.runs.proofs.Runs.{run-stops, run-front}
use Rattle.escaping.proofs.Bytes.{as-put, block-whole}
use Rattle.escaped_bytes.proofs.Left.{Left, left-part, left-byte, left_end}
use Rattle.escaped_runs.specs.Blocks.{BLOCK}

take_less : (n m : ℕ) (l : List ℕ) → n ≤ m → take n (take m l) ≡ take n l
take_less zero m l h = refl
take_less (suc n) zero l h = absurd (not-suc-le-zero h)
take_less (suc n) (suc m) [] h = refl
take_less (suc n) (suc m) (x ∷ xs) h = ap (λ (k : List ℕ). x ∷ k) (take_less n m xs (le_of_suc-le-suc h))

-- The front of a block that is written is put.
module _ (value : List ℕ) (i n : ℕ) (out : List ℕ) (at : ℕ) (within : i + BLOCK ≤ length value) (room : at + BLOCK ≤ length out) (short : n < BLOCK) where
  abbrev from : List ℕ
  from = take (i + BLOCK - i) (drop i value)

  split : from ≡ take n (drop i value) ++ drop n from
  split = sym (take-append-drop n from) ∙ ap (λ (m : List ℕ). m ++ drop n from) (take_less n (i + BLOCK - i) (drop i value) (omega arith))

  pub block-put : {block out' : List ℕ} → block ≡ written (replicate BLOCK 0) 0 from → out' ≡ written out at block → Put out at (take n (drop i value)) (at + n) out'
  block-put {block} {out'} made w =
      let size : i + BLOCK - i ≡ BLOCK = omega arith in
      let rest : BLOCK ≤ length (drop i value) = rw length-drop (omega arith) in
      let long : length from ≡ BLOCK = length-take-le (i + BLOCK - i) (drop i value) (omega arith) ∙ size in
      let part : length (take n (drop i value)) ≡ n = length-take-le n (drop i value) (omega arith) in
      let total : length (take n (drop i value) ++ drop n from) ≡ BLOCK = ap length (sym split) ∙ long in
      put_front out at (take n (drop i value)) (drop n from) (omega (arith, total, room)) (ap (λ (k : ℕ). at + k) (sym part)) (w ∙ ap (written out at) (made ∙ block-whole BLOCK from long ∙ split))

pub none-put : (value : List ℕ) (i n : ℕ) (out : List ℕ) (at : ℕ) → n ≡ 0 → (at ≡ at + n) × Put out at (take n (drop i value)) at out
none-put value i n out at z = (omega arith, rw z (put-nothing out at))

module _ (quoted : Bool) (value all out₀ : List ℕ) (at : ℕ) where
  module _ {out : List ℕ} {to i : ℕ} (l : Left quoted value all out₀ at out to i) where
    -- what a run starts with
    module _ (n : ℕ) (told : take n (drop i value) ≡ run quoted (drop i value)) where
      pub left-run : (end : ℕ) → i ≤ end → end ≤ length value → end ≤ i + n → {out' : List ℕ} {to' : ℕ} → Put out to (take (end - i) (drop i value)) to' out' → Left quoted value all out₀ at out' to' end
      left-run end start within h p =
          let sum : i + (end - i) ≡ end = omega arith in
          let rest : drop (end - i) (drop i value) ≡ drop end value = drop-drop (end - i) i value ∙ ap (λ (k : ℕ). drop k value) sum in
          left-part quoted value all out₀ at l (take (end - i) (drop i value)) end within (run-front quoted (end - i) n (drop i value) told (omega arith) ∙ ap (λ (m : List ℕ). take (end - i) (drop i value) ++ escaped quoted m) rest) p

      pub behind-run : i + n < length value → is_escaped quoted (get_or value (i + n) 0) ≡ true
      behind-run h =
          let room : n < length (drop i value) = rw length-drop (omega arith) in
          ap (is_escaped quoted) (sym (get_or-drop i value n 0)) ∙ run-stops quoted (drop i value) n told room

  -- a short run and the escape behind it
  pub left-short : {out : List ℕ} {to i : ℕ} → Left quoted value all out₀ at out to i → (n : ℕ) → take n (drop i value) ≡ run quoted (drop i value) → i + n < length value → {out₁ out₂ : List ℕ} {to₁ to₂ : ℕ} → Put out to (take n (drop i value)) to₁ out₁ → Put out₁ to₁ (escape true (get_or value (i + n) 0)) to₂ out₂ → Left quoted value all out₀ at out₂ to₂ (i + n + 1)
  left-short {out} {to} {i} l n told h {out₁} {out₂} {to₁} p q =
      let size : i + n - i ≡ n = omega arith in
      let part : take n (drop i value) ≡ take (i + n - i) (drop i value) = ap (λ (k : ℕ). take k (drop i value)) (sym size) in
      let ran : Left quoted value all out₀ at out₁ to₁ (i + n) = left-run l n told (i + n) (omega arith) (omega arith) (omega arith) (as-put (sym part) p) in
      left-byte quoted value all out₀ at ran h (as-put (in-quotes quoted (get_or value (i + n) 0) (behind-run l n told h)).1 q)

  -- the last run
  pub left-last : {out : List ℕ} {to i : ℕ} → Left quoted value all out₀ at out to i → (n : ℕ) → take n (drop i value) ≡ run quoted (drop i value) → length value - i ≤ n → {r : ℕ} {out' : List ℕ} → Put out to (take (length value - i) (drop i value)) r out' → Put out₀ at all r out'
  left-last {out} {to} {i} l n told h p = left_end quoted value all out₀ at (left-run l n told (length value) l.within (omega arith) (omega (arith, l.within)) p) (omega arith)
