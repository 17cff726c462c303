-- The thread from the newest position down: the arrays hold one scope, no position comes twice, and there are not too many to be counted.
-- Assumes nothing.
use Prim.Native.Nat.{ℕ, zero, suc, ◌+◌, ◌≤◌, ◌<◌}
use mathlib.Core.Path.{◌≡◌, refl, sym, ap, ◌∙◌}
use mathlib.Core.Bool.{Bool, not}
use mathlib.Core.List.{List, [], ◌∷◌}
use native.Mathlib.Omega.{arith}
use borrow.Author.Tests.{eqb-true, eqb-false, ne_eqb}
use lib.Dec.{eqb}
use lib.ListN.{length}
use Rattle.rules.specs.Lists.{filtered}
use Rattle.rules.proofs.Lists.{by_cases}
use Rattle.stacks.specs.Scopes.{nearest, Each}
use Rattle.stacks.specs.Stacks.{BELOW, under_at, Stacked, Inside, On}
use Rattle.stacks.proofs.Each.{each_map, each-filtered}

-- The arrays hold one scope: each position leads to the one below it.
module _ (below : ℕ → ℕ) where
  thread-unique :
      (a b : List ℕ) → nearest (λ d. 0) a 0 ≡ nearest (λ d. 0) b 0 → Stacked (λ d. 0) below a → Stacked (λ d. 0) below b → Each (λ d. 0 < d) a → Each (λ d. 0 < d) b → a ≡ b
  unfolding nearest
  thread-unique [] [] e s t h i = refl
  thread-unique [] (y ∷ b) e s t h i = let p = i.0 in absurd (omega arith)
  thread-unique (x ∷ a) [] e s t h i = let p = h.0 in absurd (omega arith)
  thread-unique (x ∷ a) (y ∷ b) e s t h i =
      rw e (ap (λ l. y ∷ l) (thread-unique a b (sym s.0 ∙ ap below e ∙ t.0) s.1 t.1 h.1 i.1))

  -- No position comes twice: from both places the way down would be the same.
  pub thread-fresh :
      (d : ℕ) (scope tail : List ℕ) → below d ≡ nearest (λ x. 0) scope 0 → length tail ≤ length scope → Stacked (λ x. 0) below scope → Stacked (λ x. 0) below tail
      → Each (λ x. 0 < x) scope → Each (λ x. 0 < x) tail → Each (λ x. x ≡ d → ⊥) tail
  thread-fresh d scope [] e l s t h i = tt
  thread-fresh d scope (x ∷ tail) e l s t h i = (
    λ same. let all = ap length (thread-unique scope tail (sym e ∙ ap below (sym same) ∙ t.0) s t.1 h i.1) in omega arith,
    thread-fresh d scope tail e (omega arith) s t.1 h i.1,
  )

pub on-unique : {notes tops path : List ℕ} (a b : List ℕ) → On notes tops path a → On notes tops path b → a ≡ b
on-unique {path = path} a b h i =
    thread-unique (under_at path BELOW) a b (sym h.newest ∙ i.newest) h.below i.below
    (each_map (λ d x. x.row) a h.inside) (each_map (λ d x. x.row) b i.inside)

-- No number comes twice.
abbrev pub Distinct : List ℕ → Type 0
Distinct [] = Unit {0}
Distinct (d ∷ l) = Each (λ x. x ≡ d → ⊥) l × Distinct l

thread-distinct : (below : ℕ → ℕ) (scope : List ℕ) → Stacked (λ d. 0) below scope → Each (λ d. 0 < d) scope → Distinct scope
thread-distinct below [] s h = tt
thread-distinct below (d ∷ scope) s h =
    (thread-fresh below d scope scope s.0 (omega arith) s.1 s.1 h.1 h.1, thread-distinct below scope s.1 h.1)

pub on-distinct : {notes tops path : List ℕ} (scope : List ℕ) → On notes tops path scope → Distinct scope
on-distinct {path = path} scope on =
    thread-distinct (under_at path BELOW) scope on.below (each_map (λ d x. x.row) scope on.inside)

module _ {A : Type 0} (test : A → Bool) where
  pub length-parted : (l : List A) → length l ≡ length (filtered (λ x. not (test x)) l) + length (filtered test l)
  length-parted [] = refl
  length-parted (x ∷ l) =
      let further = length-parted l in
      by_cases (test x) (λ t. rw t (omega arith)) (λ t. rw t (omega arith))

  pub length-filtered : (l : List A) → length (filtered test l) ≤ length l
  length-filtered [] = omega arith
  length-filtered (x ∷ l) =
      let further = length-filtered l in
      by_cases (test x) (λ t. rw t (omega arith)) (λ t. rw t (omega arith))

distinct-filtered : (test : ℕ → Bool) (l : List ℕ) → Distinct l → Distinct (filtered test l)
distinct-filtered test [] h = tt
distinct-filtered test (x ∷ l) h =
    by_cases (test x)
    (λ t. rw t (each-filtered (λ y. y ≡ x → ⊥) test l h.0, distinct-filtered test l h.1))
    (λ t. rw t (distinct-filtered test l h.1))

module _ (n : ℕ) where
  abbrev is : ℕ → Bool
  is d = eqb d n

  is_none : (l : List ℕ) → Each (λ x. x ≡ n → ⊥) l → filtered is l ≡ []
  is_none [] h = refl
  is_none (x ∷ l) h = rw (ne_eqb x n h.0) (is_none l h.1)

  is-once : (l : List ℕ) → Distinct l → length (filtered is l) ≤ 1
  is-once [] h = omega arith
  is-once (x ∷ l) h =
      by_cases (eqb x n)
      (λ t. let others : Each (λ y. y ≡ n → ⊥) l = rw (eqb-true x n t) at h.0 in rw (t, is_none l others) (omega arith))
      (λ t. rw t (is-once l h.1))

without-last : (n : ℕ) (l : List ℕ) → Each (λ d. d ≤ suc n) l → Each (λ d. d ≤ n) (filtered (λ d. not (eqb d (suc n))) l)
without-last n [] h = tt
without-last n (x ∷ l) h =
    by_cases (eqb x (suc n))
    (λ t. rw t (without-last n l h.1))
    (λ t. let ne = eqb-false x (suc n) t in let le = h.0 in rw t (omega arith, without-last n l h.1))

-- There are at most n numbers from 1 to n.
pub distinct-few : (n : ℕ) (l : List ℕ) → Distinct l → Each (λ d. 0 < d) l → Each (λ d. d ≤ n) l → length l ≤ n
distinct-few zero [] d h i = omega arith
distinct-few zero (x ∷ l) d h i = let p = h.0 in let q = i.0 in absurd (omega arith)
distinct-few (suc n) l d h i =
    let others : ℕ → Bool = λ x. not (eqb x (suc n)) in
    let parted : length l ≡ length (filtered (λ x. not (eqb x (suc n))) l) + length (filtered (is (suc n)) l) = length-parted (is (suc n)) l in
    let once : length (filtered (is (suc n)) l) ≤ 1 = is-once (suc n) l d in
    let rest : length (filtered (λ x. not (eqb x (suc n))) l) ≤ n = distinct-few n (filtered others l) (distinct-filtered others l d) (each-filtered (λ x. 0 < x) others l h) (without-last n l i) in
    omega arith

pub inside-few : (notes tops path scope : List ℕ) → Distinct scope → Each (Inside notes tops path) scope → length scope < 65536
inside-few notes tops path scope distinct inside =
    let few = distinct-few 65535 scope distinct (each_map (λ d i. i.row) scope inside) (each_map (λ d i. let small : d < 65536 = i.small in omega arith) scope inside) in
    omega arith
