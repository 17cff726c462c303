-- How many positions serve a number: a position more, and one less.
-- Assumes nothing.
use Prim.Native.Nat.{ℕ, suc, ◌+◌, ◌%◌, ◌≤◌, ◌<◌}
use mathlib.Core.Path.{◌≡◌, refl, sym, ◌∙◌}
use mathlib.Core.Bool.{Bool, true, false, cond, ◌&&◌, not}
use mathlib.Core.List.{List, [], ◌∷◌}
use native.Mathlib.Omega.{arith}
use borrow.Author.Tests.{eqb-true, eqb-false, eq-eqb, ne_eqb}
use lib.Dec.{eqb}
use lib.ListN.{length}
use Rattle.rules.specs.Lists.{filtered}
use Rattle.rules.proofs.Lists.{by_cases}
use Rattle.stacks.specs.Scopes.{nearest, differs, serving, Each}
use Rattle.stacks.specs.Stacks.{MORE, LESS}
use Rattle.stacks.proofs.Threaded.{length-parted, length-filtered}

module _ (key : ℕ → ℕ) (n : ℕ) where
  -- The key of d is n.
  abbrev agrees : ℕ → Bool
  agrees d = eqb (key d) n

  none_left : (l : List ℕ) → filtered agrees (filtered (differs key n) l) ≡ []
  none_left [] = refl
  none_left (x ∷ l) = by_cases (eqb (key x) n) (λ t. rw t (none_left l)) (λ t. simp (t, none_left l))

  others-left : (m : ℕ) → (n ≡ m → ⊥) → (l : List ℕ) → filtered agrees (filtered (differs key m) l) ≡ filtered agrees l
  others-left m other [] = refl
  others-left m other (x ∷ l) =
      by_cases (eqb (key x) n)
      (λ t.
      let e : eqb (key x) m ≡ false = ne_eqb (key x) m (λ s. other (sym (eqb-true (key x) n t) ∙ s)) in
      simp (e, t, others-left m other l))
      (λ t.
      by_cases (eqb (key x) m)
      (λ s. simp (s, t, others-left m other l))
      (λ s. simp (s, t, others-left m other l)))

-- A step back, and a step on.
module _ (some : Bool) (n : ℕ) (few : suc n < 65536) where
  lowered : cond some ((cond some (suc n) n + LESS) % 65536) (cond some (suc n) n) ≡ n
  lowered = by_cases some (λ t. rw t (omega arith)) (λ t. rw t)

  raised : cond some ((n + MORE) % 65536) n ≡ cond some (suc n) n
  raised = by_cases some (λ t. rw t (omega arith)) (λ t. rw t)

module _ (pre val : ℕ → ℕ) where
  -- Position m is one, and has the value n.
  abbrev has : ℕ → ℕ → Bool
  has m n = not (eqb m 0) && eqb (val m) n

  -- Of each prefix the nearest position alone can serve.
  serving-one : (p n : ℕ) (scope : List ℕ) → Each (λ d. 0 < d) scope → length (filtered (agrees pre p) (serving pre val scope n)) ≡ cond (not (eqb p 0) && has (nearest pre scope p) n) 1 0
  unfolding serving nearest
  serving-one p n [] h = by_cases (eqb p 0) (λ t. rw t) (λ t. rw t)
  serving-one p n (d ∷ scope) h =
      let row = h.0 in
      let other : eqb d 0 ≡ false = ne_eqb d 0 (λ e. omega arith) in
      by_cases (eqb (pre d) p)
      (λ t.
      let same : pre d ≡ p = eqb-true (pre d) p t in
      let itself : eqb p p ≡ true = eq-eqb p p refl in
      by_cases (eqb (val d) n)
      (λ v. by_cases (eqb p 0) (λ z. simp (same, itself, v, z, other, none_left pre p (serving pre val scope n))) (λ z. simp (same, itself, v, z, other, none_left pre p (serving pre val scope n))))
      (λ v. by_cases (eqb p 0) (λ z. simp (same, itself, v, z, other, none_left pre p (serving pre val scope n))) (λ z. simp (same, itself, v, z, other, none_left pre p (serving pre val scope n)))))
      (λ t.
      let kept : filtered (agrees pre p) (filtered (differs pre (pre d)) (serving pre val scope n)) ≡ filtered (agrees pre p) (serving pre val scope n) =
      others-left pre p (pre d) (λ e. eqb-false (pre d) p t (sym e)) (serving pre val scope n) in
      by_cases (eqb (val d) n && not (eqb (pre d) 0))
      (λ v. rw (v, t, kept) (serving-one p n scope h.1))
      (λ v. rw (v, t, kept) (serving-one p n scope h.1)))

  serving-few : (scope : List ℕ) (n : ℕ) → length (serving pre val scope n) ≤ length scope
  unfolding serving
  serving-few [] n = omega arith
  serving-few (d ∷ scope) n =
      let further = serving-few scope n in
      let less = length-filtered (differs pre (pre d)) (serving pre val scope n) in
      by_cases (eqb (val d) n && not (eqb (pre d) 0)) (λ t. rw t (omega arith)) (λ t. rw t (omega arith))

  -- how many serve n after a step for position m, and after position `new` serves in place of `old`, which have prefix p
  abbrev pub stepped : ℕ → ℕ → ℕ → ℕ → ℕ
  stepped m step n count = cond (has m n) ((count + step) % 65536) count

  abbrev pub exchanged : ℕ → ℕ → ℕ → ℕ → ℕ → ℕ
  exchanged p old new n count = cond (eqb p 0) count (stepped new MORE n (stepped old LESS n count))

  module _ (d : ℕ) (scope : List ℕ) (row : 0 < d) (rows : Each (λ x. 0 < x) scope) (few : length (d ∷ scope) < 65536) (n : ℕ) where
    -- those that serve before and after
    abbrev both : ℕ
    both = length (filtered (differs pre (pre d)) (serving pre val scope n))

    abbrev shadowed : ℕ
    shadowed = nearest pre scope (pre d)

    without : length (serving pre val scope n) ≡ cond (not (eqb (pre d) 0) && has shadowed n) (suc both) both
    without =
        let parted = length-parted (agrees pre (pre d)) (serving pre val scope n) in
        let one = serving-one (pre d) n scope rows in
        by_cases (not (eqb (pre d) 0) && has shadowed n)
        (λ t. let alone : length (filtered (agrees pre (pre d)) (serving pre val scope n)) ≡ 1 = rw t at one in rw t (omega arith))
        (λ t. let alone : length (filtered (agrees pre (pre d)) (serving pre val scope n)) ≡ 0 = rw t at one in rw t (omega arith))

    with_it : length (serving pre val (d ∷ scope) n) ≡ cond (eqb (val d) n && not (eqb (pre d) 0)) (suc both) both
    unfolding serving
    with_it = by_cases (eqb (val d) n && not (eqb (pre d) 0)) (λ t. rw t) (λ t. rw t)

    both-few : suc both < 65536
    both-few =
        let less = length-filtered (differs pre (pre d)) (serving pre val scope n) in
        let least = serving-few scope n in
        omega arith

    it-is : eqb d 0 ≡ false
    it-is = ne_eqb d 0 (λ e. omega arith)

    pub count-pushed : exchanged (pre d) shadowed d n (length (serving pre val scope n)) ≡ length (serving pre val (d ∷ scope) n)
    count-pushed =
        rw (without, with_it)
        (by_cases (eqb (pre d) 0)
        (λ z. by_cases (eqb (val d) n) (λ v. simp (z, v)) (λ v. simp (z, v)))
        (λ z. by_cases (eqb (val d) n)
        (λ v. simp (z, v, it-is, lowered (has shadowed n) both both-few, raised true both both-few))
        (λ v. simp (z, v, it-is, lowered (has shadowed n) both both-few))))

    pub count-popped : exchanged (pre d) d shadowed n (length (serving pre val (d ∷ scope) n)) ≡ length (serving pre val scope n)
    count-popped =
        rw (without, with_it)
        (by_cases (eqb (pre d) 0)
        (λ z. by_cases (eqb (val d) n) (λ v. simp (z, v)) (λ v. simp (z, v)))
        (λ z. by_cases (eqb (val d) n)
        (λ v. simp (z, v, it-is, lowered true both both-few, raised (has shadowed n) both both-few))
        (λ v. simp (z, v, it-is, raised (has shadowed n) both both-few))))
