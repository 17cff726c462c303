-- The stacks of one kind of number: a position more, and one less.
-- Assumes nothing.
use Prim.Native.Nat.{ℕ}
use mathlib.Core.Path.{◌≡◌, ap, ◌∙◌}
use mathlib.Core.Bool.{cond}
use mathlib.Core.List.{List, [], ◌∷◌}
use borrow.Author.Tests.{eqb-true}
use lib.Dec.{eqb}
use Rattle.rules.proofs.Lists.{by_cases}
use Rattle.stacks.specs.Scopes.{nearest, Each}
use Rattle.stacks.specs.Stacks.{Stacked, Covers}

module _ (key : ℕ → ℕ) where
  pub stacked-same : (under under' : ℕ → ℕ) (scope : List ℕ) → Each (λ x. under' x ≡ under x) scope → Stacked key under scope → Stacked key under' scope
  stacked-same under under' [] same s = tt
  stacked-same under under' (d ∷ scope) same s = (same.0 ∙ s.0, stacked-same under under' scope same.1 s.1)

  module _ (top under top' under' : ℕ → ℕ) (d : ℕ) (scope : List ℕ) (same : Each (λ x. under' x ≡ under x) scope) where
    pub covers-push : Covers key top under scope → ((n : ℕ) → top' n ≡ cond (eqb (key d) n) d (top n)) → under' d ≡ top (key d) → Covers key top' under' (d ∷ scope)
    unfolding nearest
    covers-push c new stored =
        record {
          tops = λ n. new n ∙ ap (cond (eqb (key d) n) d) (c.tops n);
          unders = (stored ∙ c.tops (key d), stacked-same under under' scope same c.unders);
        }

    pub covers-pop : Covers key top under (d ∷ scope) → ((n : ℕ) → top' n ≡ cond (eqb (key d) n) (under d) (top n)) → Covers key top' under' scope
    unfolding nearest
    covers-pop c new =
        record {
          tops = λ n.
              by_cases (eqb (key d) n)
              (λ t. (rw t at (new n)) ∙ c.unders.0 ∙ ap (nearest key scope) (eqb-true (key d) n t))
              (λ t. (rw t at (new n)) ∙ (rw t at (c.tops n)));
          unders = stacked-same under under' scope same c.unders.1;
        }
