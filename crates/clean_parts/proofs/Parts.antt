-- Parts in which no forbidden character starts.
-- Assumes nothing.
use Prim.Native.Nat.{ℕ, ◌+◌, ◌*◌, ◌-◌, ◌≤◌, ◌<◌}
use mathlib.Core.Path.{◌≡◌, sym, ap, ◌∙◌, subst}
use mathlib.Core.Bool.{false}
use mathlib.Core.List.{List}
use native.Mathlib.Omega.{arith}
use borrow.Author.Tests.{eqb-true, eqb-false, ltb-true, ltb-false}
use lib.Dec.{eqb, ltb}
use lib.ListN.{length, get_or, set, take, drop}
use lib.Seq.{drop-drop, get_or-set_same, get_or-set_other}
use Rattle.rules.proofs.Lists.{by_cases}
use Rattle.characters.specs.Characters.{starts_forbidden, forbidden_from}
use Rattle.characters.proofs.Parts.{none-starts}
use Rattle.clean_parts.specs.Clean.{BLOCK, Clean}

module _ (pool : List ℕ) where
  -- One place more.
  pub clean-next : (i e : ℕ) → Clean pool i e → starts_forbidden (drop e pool) ≡ false → Clean pool i (e + 1)
  clean-next i e clean here p l h =
      by_cases (eqb p e)
      (λ t. subst (λ (k : ℕ). starts_forbidden (drop k pool) ≡ false) (sym (eqb-true p e t)) here)
      (λ t. let other = eqb-false p e t in clean p l (omega arith))

  -- One part behind another, or a front of both.
  pub clean-joined : (i m e reach : ℕ) → Clean pool i m → Clean pool m reach → e ≤ reach → Clean pool i e
  clean-joined i m e reach front back within p l h =
      by_cases (ltb p m)
      (λ t. front p l (ltb-true p m t))
      (λ t. let past = ltb-false p m t in back p past (omega arith))

  -- The bytes of such a part hold none.
  pub clean-holds : (i e : ℕ) → Clean pool i e → forbidden_from (take (e - i) (drop i pool)) ≡ false
  clean-holds i e clean =
      none-starts (e - i) (drop i pool) (λ p h. ap starts_forbidden (drop-drop p i pool) ∙ clean (i + p) (omega arith) (omega arith))

  -- What is known of the first n blocks.
  abbrev pub ReachedTo : List ℕ → ℕ → Type 0
  ReachedTo reaches n = (k : ℕ) → k < n → Clean pool (BLOCK * k) (get_or reaches k 0)

  pub reached-next : (reaches : List ℕ) (n reach : ℕ) → n < length reaches → ReachedTo reaches n → Clean pool (BLOCK * n) reach → ReachedTo (set reaches n reach) (n + 1)
  reached-next reaches n reach h before clean k l =
      by_cases (eqb k n)
      (λ t. rw (eqb-true k n t, get_or-set_same reaches n reach 0 h) clean)
      (λ t. let other = eqb-false k n t in rw (get_or-set_other reaches n k reach 0 (λ x. other x)) (before k (omega arith)))
