-- A turn of a loop that copies, and what the loop leaves.
-- Assumes nothing.
use Prim.Native.Nat.{ℕ, ◌+◌, ◌≤◌, ◌<◌}
use mathlib.Core.Path.{◌≡◌, refl, sym, ap, ◌∙◌}
use mathlib.Core.List.{List, [], ◌∷◌, ◌++◌, append-nil, append_assoc}
use native.Mathlib.Nat.{zero-add, add-zero, le_antisymm}
use native.Mathlib.Numerals.{add-one}
use native.Mathlib.Omega.{arith}
use lib.Dec.{ltb}
use borrow.Author.Tests.{ltb-true, ltb-false}
use Rattle.rules.proofs.Lists.{by_cases}
use lib.ListN.{length, get_or, take, drop, set, length-append, length-drop}
use lib.Seq.{take-length, take-append_seam, get_or-append_seam, length-take-le, take_at, drop_at, drop-drop, paste, paste-suc}
use Rattle.buffers.specs.Writes.{written, Put}

module _ (t₀ t : List ℕ) (at : ℕ) (l : List ℕ) (i : ℕ) (e : t ≡ paste t₀ at l i) where
  -- A store of element i takes the copy of i elements to that of i + 1.
  pub write_step : at + length l ≤ length t₀ → i < length l → set t (at + i) (get_or l i 0) ≡ paste t₀ at l (i + 1)
  write_step h k = rw (e, add-one) (paste-suc t₀ at l i 0 (omega arith) k)

  pub write-end : i ≤ length l → length l ≤ i → t ≡ written t₀ at l
  write-end h k =
      let n : i ≡ length l = le_antisymm h k in
      e ∙ rw (n, take-length) refl

-- A store behind what was written is a longer write.
pub write-more : (t : List ℕ) (at : ℕ) (l : List ℕ) (v : ℕ) → at + length l < length t → set (written t at l) (at + length l) v ≡ written t at (l ++ v ∷ [])
write-more t at l v h =
    let more = l ++ v ∷ [] in
    let size : length more ≡ length l + 1 = length-append l (v ∷ []) in
    let part : written t at l ≡ paste t at more (length l) = ap (λ (m : List ℕ). take at t ++ m ++ drop (at + length l) t) (sym (take-append_seam l (v ∷ []))) in
    let last : get_or more (length l) 0 ≡ v = get_or-append_seam l v [] 0 in
    ap (λ (x : ℕ). set (written t at l) (at + length l) x) (sym last)
    ∙ write_step t (written t at l) at more (length l) part (omega arith) (omega arith)
    ∙ write-end t (paste t at more (length l + 1)) at more (length l + 1) refl (omega arith) (omega arith)

-- A copy is a write from the start.
pub written-from-start : (t l : List ℕ) → written t 0 l ≡ l ++ drop (length l) t
written-from-start t l = ap (λ (n : ℕ). l ++ drop n t) (zero-add (length l))

-- A write keeps the buffer's length.
pub length-written : (t : List ℕ) (at : ℕ) (l : List ℕ) → at + length l ≤ length t → length (written t at l) ≡ length t
length-written t at l h =
    let e : length (take at t) ≡ at = length-take-le at t (omega arith) in
    simp (length-append, length-drop, e) (omega arith)

-- A write behind what was written is one longer write.
pub written_behind : (t : List ℕ) (at : ℕ) (a b : List ℕ) → at + length a + length b ≤ length t → written (written t at a) (at + length a) b ≡ written t at (a ++ b)
written_behind t at a b h =
    let front = take at t ++ a in
    let rest = drop (at + length a) t in
    let seam : length front ≡ at + length a = length-append (take at t) a ∙ ap (λ (n : ℕ). n + length a) (length-take-le at t (omega arith)) in
    let kept : take (at + length a) (written t at a) ≡ front = take_at front rest (at + length a) seam in
    let gone : drop (at + length a + length b) (written t at a) ≡ drop (at + length a + length b) t =
    sym (drop-drop (length b) (at + length a) (written t at a)) ∙ ap (drop (length b)) (drop_at front rest (at + length a) seam)
    ∙ drop-drop (length b) (at + length a) t in
    let size : at + length a + length b ≡ at + length (a ++ b) = rw length-append (omega arith) in
    ap (λ (l : List ℕ). l ++ b ++ drop (at + length a + length b) (written t at a)) kept
    ∙ ap (λ (l : List ℕ). take at t ++ a ++ b ++ l) gone
    ∙ ap (λ (l : List ℕ). l ++ drop (at + length a + length b) t) (append_assoc (take at t) a b)
    ∙ ap (λ (n : ℕ). take at t ++ (a ++ b) ++ drop n t) size

-- Nothing is put.
pub put-nothing : (t : List ℕ) (at : ℕ) → Put t at [] at t
put-nothing t at = record { size = refl; fits = λ h. (sym (add-zero at), sym (append-nil (take at t))); past = λ h. omega arith }

-- What starts past the end does not fit.
pub put-past : (t : List ℕ) (at : ℕ) (l : List ℕ) → length t < at → Put t at l at t
put-past t at l h = record { size = refl; fits = λ k. absurd (omega arith); past = λ k. h }

-- The front of what is written is put.
pub put_front : (t : List ℕ) (at : ℕ) (l more : List ℕ) {r : ℕ} {t' : List ℕ} → at + length (l ++ more) ≤ length t → r ≡ at + length l → t' ≡ written t at (l ++ more) → Put t at l r t'
put_front t at l more {r} {t'} h e w =
    let front = take at t ++ l in
    let rest = drop (at + length (l ++ more)) t in
    let sum : length (l ++ more) ≡ length l + length more = length-append l more in
    let seam : length front ≡ at + length l = length-append (take at t) l ∙ ap (λ (n : ℕ). n + length l) (length-take-le at t (omega (arith, sum))) in
    let split : written t at (l ++ more) ≡ front ++ (more ++ rest) =
    ap (λ (m : List ℕ). m ++ rest) (sym (append_assoc (take at t) l more)) ∙ append_assoc front more rest in
    record {
      size = ap length w ∙ length-written t at (l ++ more) h;
      fits = λ k. (e, rw (w, e, split) (take_at front (more ++ rest) (at + length l) seam));
      past = λ k. absurd (omega (arith, sum));
    }

pub put-fits : (t : List ℕ) (at : ℕ) (l : List ℕ) {r : ℕ} {t' : List ℕ} → at + length l ≤ length t → r ≡ at + length l → t' ≡ written t at l → Put t at l r t'
put-fits t at l {r} {t'} h e w =
    let same : l ++ [] ≡ l = append-nil l in
    put_front t at l [] (rw same h) e (rw same w)

-- What is put behind what was put is one longer list.
pub put-behind : {t : List ℕ} {at : ℕ} {a b : List ℕ} {r r' : ℕ} {t' t'' : List ℕ} → Put t at a r t' → Put t' r b r' t'' → Put t at (a ++ b) r' t''
put-behind {t} {at} {a} {b} {r} {r'} {t'} {t''} p q =
    let size : at + length (a ++ b) ≡ at + length a + length b = rw length-append (omega arith) in
    record {
      size = q.size ∙ p.size;
      fits = λ h.
          let first = p.fits (omega arith) in
          let second = q.fits (omega (arith, first.0, p.size)) in
          (second.0 ∙ rw first.0 (sym size), second.1 ∙ ap (λ (l : List ℕ). l ++ b) first.1 ∙ append_assoc (take at t) a b);
      past = λ h.
          by_cases (ltb (length t) (at + length a))
          (λ e. let past = p.past (ltb-true (length t) (at + length a) e) in let further = q.past (omega (arith, past, p.size)) in omega (arith, further, p.size))
          (λ e.
          let within = ltb-false (length t) (at + length a) e in
          let first = p.fits within in
          let further = q.past (omega (arith, first.0, p.size)) in
          omega (arith, further, p.size));
    }
