-- Scopes that answer alike.
-- Assumes nothing.
use Prim.Native.Nat.{ℕ, ◌<◌}
use mathlib.Core.Path.{◌≡◌, refl, sym, ap, ◌∙◌}
use mathlib.Core.Bool.{Bool, true, false, ◌&&◌, not}
use mathlib.Core.List.{List, [], ◌∷◌, ◌++◌}
use native.Mathlib.Omega.{arith}
use borrow.Author.Tests.{eqb-true, eqb-false, ne_eqb}
use lib.Dec.{eqb}
use Rattle.rules.specs.Lists.{filtered}
use Rattle.rules.proofs.Lists.{by_cases, both_true, not-true, filtered-append}
use Rattle.stacks.specs.Scopes.{nearest, differs, serving, Alike, Each}
use Rattle.stacks.proofs.Each.{each-front, each-behind}

module _ {A : Type 0} (p q : A → Bool) where
  -- Two tests can be made in either order.
  filtered-swap : (l : List A) → filtered p (filtered q l) ≡ filtered q (filtered p l)
  filtered-swap [] = refl
  filtered-swap (x ∷ l) =
      by_cases (p x)
      (λ s. by_cases (q x) (λ t. simp (s, t, filtered-swap l)) (λ t. simp (s, t, filtered-swap l)))
      (λ s. by_cases (q x) (λ t. simp (s, t, filtered-swap l)) (λ t. simp (s, t, filtered-swap l)))

append-empty : {A : Type 0} (a b : List A) → a ++ b ≡ [] → (a ≡ []) × (b ≡ [])
append-empty [] b e = (refl, e)
append-empty (x ∷ a) b e = let z : ◌≡◌ {A = ℕ} 0 1 = cc in absurd (omega arith)

module _ (pre val : ℕ → ℕ) where
  pub alike_refl : (scope : List ℕ) → Alike pre val scope scope
  alike_refl scope = record { nearest = λ n. refl; serving = λ u. refl }

  pub alike-trans : {a b c : List ℕ} → Alike pre val a b → Alike pre val b c → Alike pre val a c
  alike-trans h i = record { nearest = λ n. h.nearest n ∙ i.nearest n; serving = λ u. h.serving u ∙ i.serving u }

  pub alike-sym : {a b : List ℕ} → Alike pre val a b → Alike pre val b a
  alike-sym h = record { nearest = λ n. sym (h.nearest n); serving = λ u. sym (h.serving u) }

  -- Alike scopes with the same positions in front are alike.
  alike-push : (d : ℕ) {a b : List ℕ} → Alike pre val a b → Alike pre val (d ∷ a) (d ∷ b)
  unfolding nearest serving
  alike-push d h = record { nearest = λ n. rw (h.nearest n); serving = λ u. rw (h.serving u) }

  pub alike-front : (own : List ℕ) {a b : List ℕ} → Alike pre val a b → Alike pre val (own ++ a) (own ++ b)
  alike-front [] h = h
  alike-front (d ∷ own) h = alike-push d (alike-front own h)

  -- The positions that none of these shadows.
  abbrev unshadowed : List ℕ → List ℕ → List ℕ
  unshadowed [] l = l
  unshadowed (x ∷ own) l = filtered (differs pre (pre x)) (unshadowed own l)

  serving-append : (own scope : List ℕ) (u : ℕ) → serving pre val (own ++ scope) u ≡ serving pre val own u ++ unshadowed own (serving pre val scope u)
  unfolding serving
  serving-append [] scope u = refl
  serving-append (x ∷ own) scope u =
      by_cases (eqb (val x) u && not (eqb (pre x) 0))
      (λ t. rw (t, serving-append own scope u, filtered-append (differs pre (pre x)) (serving pre val own u) (unshadowed own (serving pre val scope u))))
      (λ t. rw (t, serving-append own scope u, filtered-append (differs pre (pre x)) (serving pre val own u) (unshadowed own (serving pre val scope u))))

  -- A declaration of a prefix that no position of the scope has.
  module _ (d : ℕ) where
    abbrev Free : List ℕ → Type 0
    Free scope = Each (λ x. differs pre (pre d) x ≡ true) scope

    -- and the other way round
    other : (x : ℕ) → differs pre (pre d) x ≡ true → eqb (pre d) (pre x) ≡ false
    other x h = ne_eqb (pre d) (pre x) (λ e. eqb-false (pre x) (pre d) (not-true (eqb (pre x) (pre d)) h) (sym e))

    nearest-free : (scope : List ℕ) → Each (λ x. 0 < x) scope → nearest pre scope (pre d) ≡ 0 → Free scope
    unfolding nearest
    nearest-free [] h e = tt
    nearest-free (x ∷ scope) h e =
        by_cases (eqb (pre x) (pre d))
        (λ t. let z : x ≡ 0 = rw t at e in let i = h.0 in absurd (omega arith))
        (λ t. (ap not t, nearest-free scope h.1 (rw t at e)))

    unshadowed-free : (own l : List ℕ) → Free own → unshadowed own (d ∷ l) ≡ d ∷ unshadowed own l
    unshadowed-free [] l f = refl
    unshadowed-free (x ∷ own) l f = rw (unshadowed-free own l f.1, other x f.0)

    serving-free : (scope : List ℕ) (u : ℕ) → Free scope → filtered (differs pre (pre d)) (serving pre val scope u) ≡ serving pre val scope u
    unfolding serving
    serving-free [] u f = refl
    serving-free (x ∷ scope) u f =
        let further : filtered (differs pre (pre d)) (filtered (differs pre (pre x)) (serving pre val scope u)) ≡ filtered (differs pre (pre x)) (serving pre val scope u) =
        filtered-swap (differs pre (pre d)) (differs pre (pre x)) (serving pre val scope u) ∙ ap (filtered (differs pre (pre x))) (serving-free scope u f.1) in
        by_cases (eqb (val x) u && not (eqb (pre x) 0))
        (λ t. rw (t, f.0, further))
        (λ t. rw (t, further))

    nearest-behind : (own scope : List ℕ) (n : ℕ) → Free own → nearest pre (own ++ d ∷ scope) n ≡ nearest pre (d ∷ own ++ scope) n
    unfolding nearest
    nearest-behind [] scope n f = refl
    nearest-behind (x ∷ own) scope n f =
        by_cases (eqb (pre x) n)
        (λ t. let e : eqb (pre d) n ≡ false = rw (← eqb-true (pre x) n t) (other x f.0) in rw (t, e))
        (λ t. rw (t, nearest-behind own scope n f.1))

    -- It stands in front of these or behind them: where its prefix has no declaration, and its value no serving one.
    pub alike-behind :
        (own scope : List ℕ) → Each (λ x. 0 < x) (own ++ scope) → nearest pre (own ++ scope) (pre d) ≡ 0 → serving pre val (own ++ scope) (val d) ≡ []
        → Alike pre val (d ∷ own ++ scope) (own ++ d ∷ scope)
    unfolding serving
    alike-behind own scope h new needed =
        let free = nearest-free (own ++ scope) h new in
        let mine : Free own = each-front (λ x. differs pre (pre d) x ≡ true) own scope free in
        let outer : Free scope = each-behind (λ x. differs pre (pre d) x ≡ true) own scope free in
        let none = append-empty (serving pre val own (val d)) (unshadowed own (serving pre val scope (val d))) (sym (serving-append own scope (val d)) ∙ needed) in
        record {
          nearest = λ n. sym (nearest-behind own scope n mine);
          serving = λ u.
              by_cases (eqb (val d) u && not (eqb (pre d) 0))
              (λ t.
              let same : val d ≡ u = eqb-true (val d) u (both_true (eqb (val d) u) (not (eqb (pre d) 0)) t).0 in
              let left : serving pre val (d ∷ own ++ scope) u ≡ d ∷ [] = rw (t, ← same, needed) in
              let right : serving pre val (own ++ d ∷ scope) u ≡ d ∷ [] =
              serving-append own (d ∷ scope) u
              ∙ rw (t, serving-free scope u outer, unshadowed-free own (serving pre val scope u) mine, ← same, none.0, none.1)
              in
              left ∙ sym right)
              (λ t.
              let left : serving pre val (d ∷ own ++ scope) u ≡ serving pre val (own ++ scope) u = rw (t, serving-free (own ++ scope) u free) in
              let right : serving pre val (own ++ d ∷ scope) u ≡ serving pre val own u ++ unshadowed own (serving pre val scope u) =
              serving-append own (d ∷ scope) u ∙ rw (t, serving-free scope u outer)
              in
              left ∙ serving-append own scope u ∙ sym right);
        }
