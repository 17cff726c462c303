-- Properties of each position of a list.
-- Assumes nothing.
use Prim.Native.Nat.{ℕ}
use mathlib.Core.Path.{◌≡◌, refl}
use mathlib.Core.Bool.{Bool}
use mathlib.Core.List.{List, [], ◌∷◌, ◌++◌}
use native.Mathlib.Omega.{arith}
use lib.ListN.{length}
use Rattle.rules.specs.Lists.{filtered}
use Rattle.rules.proofs.Lists.{by_cases}
use Rattle.stacks.specs.Scopes.{Each}

pub each_all : {P : ℕ → Type 0} → ((d : ℕ) → P d) → (scope : List ℕ) → Each P scope
each_all f [] = tt
each_all f (d ∷ scope) = (f d, each_all f scope)

pub each_map : {P Q : ℕ → Type 0} → ((d : ℕ) → P d → Q d) → (scope : List ℕ) → Each P scope → Each Q scope
each_map f [] h = tt
each_map f (d ∷ scope) h = (f d h.0, each_map f scope h.1)

pub each_both : {P Q R : ℕ → Type 0} → ((d : ℕ) → P d → Q d → R d) → (scope : List ℕ) → Each P scope → Each Q scope → Each R scope
each_both f [] h i = tt
each_both f (d ∷ scope) h i = (f d h.0 i.0, each_both f scope h.1 i.1)

pub each_append : (P : ℕ → Type 0) (own scope : List ℕ) → Each P own → Each P scope → Each P (own ++ scope)
each_append P [] scope h i = i
each_append P (d ∷ own) scope h i = (h.0, each_append P own scope h.1 i)

pub each-behind : (P : ℕ → Type 0) (own scope : List ℕ) → Each P (own ++ scope) → Each P scope
each-behind P [] scope h = h
each-behind P (d ∷ own) scope h = each-behind P own scope h.1

pub each-front : (P : ℕ → Type 0) (own scope : List ℕ) → Each P (own ++ scope) → Each P own
each-front P [] scope h = tt
each-front P (d ∷ own) scope h = (h.0, each-front P own scope h.1)

pub each-filtered : (P : ℕ → Type 0) (test : ℕ → Bool) (l : List ℕ) → Each P l → Each P (filtered test l)
each-filtered P test [] h = tt
each-filtered P test (x ∷ l) h = by_cases (test x) (λ t. rw t (h.0, each-filtered P test l h.1)) (λ t. rw t (each-filtered P test l h.1))

pub length_none : (l : List ℕ) → length l ≡ 0 → l ≡ []
length_none [] e = refl
length_none (x ∷ l) e = absurd (omega arith)
