-- The rows that are kept: each stands in the result at its new number.
-- Assumes nothing.
use Prim.Native.Nat.{ℕ, zero, suc, ◌+◌, ◌-◌, ◌≤◌, ◌<◌}
use mathlib.Core.Path.{◌≡◌, refl, sym, ◌∙◌, ap, subst}
use mathlib.Core.List.{List, [], ◌∷◌, ◌++◌, append-nil}
use mathlib.Core.Option.{Option, none, some}
use native.Mathlib.Nat.{le_refl, le_trans, not-suc-le-zero}
use native.Mathlib.Omega.{arith}
use lib.ListN.{length, get_or, take, length-append, get_or-append}
use lib.Seq.{take-append-le, get_or-append_seam, take-length}
use lib.Dec.{eqb, ltb}
use borrow.Author.Tests.{eqb-true, eqb-false, ltb-true, ltb-false}
use Rattle.rules.specs.Lists.{numbers_from}
use Rattle.rules.specs.Table.{Node}
use Rattle.rules.specs.declared.Refusal.{Refusal}
use Rattle.rules.proofs.Lists.{by_cases}
use Rattle.dropped_rows.specs.Dropped.{drop_refusal, kept, drops_below}

module _ (ns : List Node) where
  -- Row r is kept.
  abbrev pub IsKept : ℕ → Type 0
  IsKept r = drop_refusal ns (kept ns r) r ≡ none

  pub kept_next : (r : ℕ) → IsKept r → kept ns (suc r) ≡ kept ns r ++ r ∷ []
  unfolding kept
  kept_next r k = rw k refl

  pub kept-not : (r : ℕ) (x : Refusal) → drop_refusal ns (kept ns r) r ≡ some x → kept ns (suc r) ≡ kept ns r
  unfolding kept
  kept-not r x k = rw k refl

  -- What a row does to the list.
  pub either : {P : Type 0} (r : ℕ) → (IsKept r → P) → ((x : Refusal) → drop_refusal ns (kept ns r) r ≡ some x → P) → P
  either {P = P} r yes? no? = go (drop_refusal ns (kept ns r) r) refl
    where
      go : (o : Option Refusal) → drop_refusal ns (kept ns r) r ≡ o → P
      go none e = yes? e
      go (some x) e = no? x e

  pub longer : (r : ℕ) → length (kept ns r) ≤ length (kept ns (suc r))
  longer r =
      either r
      (λ k. rw (kept_next r k) (simp length-append (omega arith)))
      (λ x k. rw (kept-not r x k) (le_refl (length (kept ns r))))

  pub few : (r : ℕ) → length (kept ns r) ≤ r
  unfolding kept
  few zero = le_refl 0
  few (suc r) =
      either r
      (λ k. rw (kept_next r k) (simp length-append (omega (arith, few r))))
      (λ x k. rw (kept-not r x k) (omega (arith, few r)))

  -- What a row adds to the list of those that are dropped.
  pub drops-next : (r : ℕ) (x : Refusal) → drop_refusal ns (kept ns r) r ≡ some x → drops_below ns (suc r) ≡ drops_below ns r ++ x ∷ []
  unfolding drops_below
  drops-next r x k = rw k refl

  pub drops-not : (r : ℕ) → IsKept r → drops_below ns (suc r) ≡ drops_below ns r
  unfolding drops_below
  drops-not r k = rw k (append-nil (drops_below ns r))

  -- Every row is kept or dropped.
  pub both-counted : (r : ℕ) → length (kept ns r) + length (drops_below ns r) ≡ r
  unfolding kept drops_below
  both-counted zero = refl
  both-counted (suc r) =
      either r
      (λ k. rw (kept_next r k, drops-not r k) (simp length-append (omega (arith, both-counted r))))
      (λ x k. rw (kept-not r x k, drops-next r x k) (simp length-append (omega (arith, both-counted r))))

  -- Where none is dropped, each is kept.
  pub none_dropped : (n : ℕ) → length (drops_below ns n) ≡ 0 → (r : ℕ) → r < n → IsKept r
  none_dropped zero e r h = absurd (not-suc-le-zero h)
  none_dropped (suc n) e r h =
      either n
      (λ k.
      by_cases (eqb r n)
      (λ q. rw (eqb-true r n q) k)
      (λ q. let d = eqb-false r n q in none_dropped n (rw (drops-not n k) at e) r (omega arith)))
      (λ x k. let long : length (drops_below ns n ++ x ∷ []) ≡ 0 = rw (drops-next n x k) at e in absurd (omega (arith, length-append (drops_below ns n) (x ∷ []))))

  -- The list only grows at its end.
  pub grows : (r n : ℕ) → length (kept ns r) ≤ length (kept ns (r + n))
  grows r zero = let e : r + 0 ≡ r = omega arith in rw e (le_refl (length (kept ns r)))
  grows r (suc n) = let e : r + suc n ≡ suc (r + n) = omega arith in rw e (le_trans (grows r n) (longer (r + n)))

  pub first-kept : (r n : ℕ) → take (length (kept ns r)) (kept ns (r + n)) ≡ kept ns r
  first-kept r zero = let e : r + 0 ≡ r = omega arith in rw e (take-length (kept ns r))
  first-kept r (suc n) =
      let e : r + suc n ≡ suc (r + n) = omega arith in
      ap (λ (k : ℕ). take (length (kept ns r)) (kept ns k)) e
      ∙ either (r + n)
      (λ k. ap (take (length (kept ns r))) (kept_next (r + n) k) ∙ take-append-le (length (kept ns r)) (kept ns (r + n)) ((r + n) ∷ []) (grows r n) ∙ first-kept r n)
      (λ x k. ap (take (length (kept ns r))) (kept-not (r + n) x k) ∙ first-kept r n)

  -- A kept row stands at its new number.
  pub kept_at : (r n : ℕ) → IsKept r → get_or (kept ns (suc r + n)) (length (kept ns r)) 0 ≡ r
  kept_at r zero k =
      let e : suc r + 0 ≡ suc r = omega arith in
      ap (λ (j : ℕ). get_or (kept ns j) (length (kept ns r)) 0) e
      ∙ ap (λ (l : List ℕ). get_or l (length (kept ns r)) 0) (kept_next r k)
      ∙ get_or-append_seam (kept ns r) r [] 0
  kept_at r (suc n) k =
      let e : suc r + suc n ≡ suc (suc r + n) = omega arith in
      let room : length (kept ns r) < length (kept ns (suc r + n)) = inside in
      ap (λ (j : ℕ). get_or (kept ns j) (length (kept ns r)) 0) e
      ∙ either (suc r + n)
      (λ l. ap (λ (xs : List ℕ). get_or xs (length (kept ns r)) 0) (kept_next (suc r + n) l) ∙ get_or-append (kept ns (suc r + n)) ((suc r + n) ∷ []) 0 (length (kept ns r)) room ∙ kept_at r n k)
      (λ x l. ap (λ (xs : List ℕ). get_or xs (length (kept ns r)) 0) (kept-not (suc r + n) x l) ∙ kept_at r n k)
    where
      inside : length (kept ns r) < length (kept ns (suc r + n))
      inside =
          let one : length (kept ns (suc r)) ≡ length (kept ns r) + 1 = ap length (kept_next r k) ∙ length-append (kept ns r) (r ∷ []) in
          omega (arith, grows (suc r) n, one)

  -- Every place of the result holds a kept row.
  pub record Source (n j : ℕ) : Type 0 where
    pub row : ℕ
    pub below : row < n
    pub is_kept : IsKept row
    pub number : length (kept ns row) ≡ j
    pub there : get_or (kept ns n) j 0 ≡ row

  pub source : (n j : ℕ) → j < length (kept ns n) → Source n j
  unfolding kept
  source zero j h = absurd (not-suc-le-zero h)
  source (suc n) j h =
      either n
      (λ k.
      let l = kept_next n k in
      let count : length (kept ns n ++ n ∷ []) ≡ length (kept ns n) + 1 = length-append (kept ns n) (n ∷ []) in
      by_cases (ltb j (length (kept ns n)))
      (λ q.
      let i = ltb-true j (length (kept ns n)) q in
      let s = source n j i in
      record {
        row = s.row;
        below = omega (arith, s.below);
        is_kept = s.is_kept;
        number = s.number;
        there = ap (λ (xs : List ℕ). get_or xs j 0) l ∙ get_or-append (kept ns n) (n ∷ []) 0 j i ∙ s.there;
      })
      (λ q.
      let i = ltb-false j (length (kept ns n)) q in
      let bound : j < length (kept ns n ++ n ∷ []) = subst (λ (xs : List ℕ). j < length xs) l h in
      let z : length (kept ns n) ≡ j = omega (arith, count) in
      record {
        row = n;
        below = le_refl (suc n);
        is_kept = k;
        number = z;
        there = ap (λ (xs : List ℕ). get_or xs j 0) l ∙ ap (λ (i : ℕ). get_or (kept ns n ++ n ∷ []) i 0) (sym z) ∙ get_or-append_seam (kept ns n) n [] 0;
      }))
      (λ x k.
      let l = kept-not n x k in
      let s = source n j (subst (λ (xs : List ℕ). j < length xs) l h) in
      record {
        row = s.row;
        below = omega (arith, s.below);
        is_kept = s.is_kept;
        number = s.number;
        there = ap (λ (xs : List ℕ). get_or xs j 0) l ∙ s.there;
      })

  -- New numbers are in the order of the rows, and tell them apart.
  pub ordered : (p r : ℕ) → IsKept p → p < r → length (kept ns p) < length (kept ns r)
  ordered p r k i =
      let e : suc p + (r - suc p) ≡ r = omega arith in
      let one : length (kept ns (suc p)) ≡ length (kept ns p) + 1 = ap length (kept_next p k) ∙ length-append (kept ns p) (p ∷ []) in
      let more = subst (λ (j : ℕ). length (kept ns (suc p)) ≤ length (kept ns j)) e (grows (suc p) (r - suc p)) in
      omega (arith, one, more)

  pub apart : (p q : ℕ) → IsKept p → IsKept q → length (kept ns p) ≡ length (kept ns q) → p ≡ q
  apart p q kp kq e =
      by_cases (ltb p q)
      (λ l. absurd (omega (arith, ordered p q kp (ltb-true p q l), e)))
      (λ l.
      by_cases (ltb q p)
      (λ m. absurd (omega (arith, ordered q p kq (ltb-true q p m), e)))
      (λ m. omega (arith, ltb-false p q l, ltb-false q p m)))

-- Numbers in a row, one more.
pub numbers-end : (i count : ℕ) → numbers_from i count ++ (i + count) ∷ [] ≡ numbers_from i (suc count)
numbers-end i zero = let e : i + 0 ≡ i = omega arith in rw e refl
numbers-end i (suc count) =
    let e : i + suc count ≡ suc i + count = omega arith in
    ap (λ (k : ℕ). i ∷ (numbers_from (suc i) count ++ k ∷ [])) e ∙ ap (λ (l : List ℕ). i ∷ l) (numbers-end (suc i) count)
