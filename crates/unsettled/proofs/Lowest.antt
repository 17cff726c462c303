-- The lowest row that meets a test, and what it is refused for.
-- Assumes nothing.
use Prim.Native.Nat.{ℕ, zero, suc, ◌+◌, ◌≤◌, ◌<◌}
use mathlib.Core.Path.{◌≡◌, refl, sym, ap, ◌∙◌, subst}
use mathlib.Core.Bool.{Bool, true, false}
use mathlib.Core.Option.{Option}
use native.Mathlib.Omega.{arith}
use native.Mathlib.Numerals.{add-one}
use borrow.Author.Tests.{eqb-true, eqb-false, ltb-true, ltb-false}
use lib.Dec.{eqb, ltb}
use Rattle.rules.specs.Refusals.{refused_if, lowest_refusal}
use Rattle.rules.specs.declared.Refusal.{Refusal}
use Rattle.rules.specs.declared.Row.{Row}
use Rattle.rules.proofs.Lists.{by_cases}
use Rattle.rules.proofs.Refusals.{refusal_from, from_start, from-refused, from_next, none-lowest}
use Rattle.unsettled.specs.Lowest.{NoneBefore, Lowest}

module _ (test : ℕ → Bool) where
  -- A pass over n rows comes to row r.
  module _ (n r : ℕ) (before : NoneBefore test n r) where
    pub lowest-none : {s : ℕ} → n ≤ r → n ≤ s → Lowest test n s
    lowest-none past past' = record { before = λ q l k. before q (omega arith) k; there = λ l. absurd (omega arith) }

    module _ (is : Bool) (told : is ≡ test r) where
      pub lowest-found : is ≡ true → Lowest test n r
      lowest-found e = record { before = before; there = λ l. sym told ∙ e }

      pub none-next : is ≡ false → NoneBefore test n (r + 1)
      none-next e q l k =
          by_cases (eqb q r)
          (λ t. subst (λ (k : ℕ). test k ≡ false) (sym (eqb-true q r t)) (sym told ∙ e))
          (λ t. let other = eqb-false q r t in before q (omega arith) k)

  module _ (n r : ℕ) where
    -- A test that says the same of each row.
    pub lowest-same : (other : ℕ → Bool) → ((q : ℕ) → q < n → other q ≡ test q) → Lowest test n r → Lowest other n r
    lowest-same other same lowest = record { before = λ q l k. same q k ∙ lowest.before q l k; there = λ l. same r l ∙ lowest.there l }

    -- What is refused for it.
    module _ (refusal : Row → Refusal) where
      abbrev drawn : ℕ → Option Refusal
      drawn q = refused_if (test q) (refusal (record { 0 = q }))

      from_row : (k : ℕ) → k < n → NoneBefore test n k → refusal_from drawn n 0 ≡ refusal_from drawn n k
      from_row zero l before = refl
      from_row (suc k) l before =
          from_row k (omega arith) (λ q h l. before q (omega arith) l) ∙ from_next drawn n k (omega arith) (rw (before k (omega arith) (omega arith)) refl)
          ∙ ap (refusal_from drawn n) (add-one k)

      pub lowest-refusal : Lowest test n r → lowest_refusal drawn n ≡ refused_if (ltb r n) (refusal (record { 0 = r }))
      lowest-refusal lowest =
          by_cases (ltb r n)
          (λ t.
          let less = ltb-true r n t in
          rw t (sym (from_start drawn n) ∙ from_row r less lowest.before ∙ from-refused drawn n r less (refusal (record { 0 = r })) (rw (lowest.there less) refl)))
          (λ t. let past = ltb-false r n t in rw t (none-lowest drawn n (λ q l. rw (lowest.before q (omega arith) l) refl)))
