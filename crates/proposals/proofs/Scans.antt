-- Going through the rows for the lowest one that meets a test.
-- Assumes nothing.
use Rattle.std.specs.Prelude.{Ok, Err}
use Prim.Native.Nat.{ℕ, zero, suc, ◌+◌, ◌≤◌, ◌<◌}
use mathlib.Core.Path.{◌≡◌, refl, sym, ap, ◌∙◌, subst}
use mathlib.Core.Bool.{Bool, true, false}
use mathlib.Core.Option.{Option}
use native.Mathlib.Numerals.{add-one}
use native.Mathlib.Omega.{arith}
use lib.Dec.{ltb}
use borrow.Author.Tests.{ltb-true, ltb-false}
use Rattle.rules.specs.Refusals.{refused_if, verdict}
use Rattle.rules.specs.declared.Row.{Row}
use Rattle.rules.specs.declared.Refusal.{Refusal}
use Rattle.rules.proofs.Lists.{by_cases}
use Rattle.rules.proofs.Refusals.{refusal_from, from_start, from-refused, from_next, from_end}
use Rattle.proposals.specs.Proposals.{lowest}

module _ (test : ℕ → Bool) (refusal : Row → Refusal) (count : ℕ) where
  abbrev drawn : ℕ → Option Refusal
  drawn r = refused_if (test r) (refusal (record { 0 = r }))

  -- The rows from r on decide.
  abbrev pub Scanning : ℕ → Type 0
  Scanning r = lowest test refusal count ≡ refusal_from drawn count r

  pub scan-start : Scanning 0
  scan-start = sym (from_start drawn count)

  module _ (r : ℕ) (scanning : Scanning r) where
    module _ (inside : r < count) (is : Bool) (told : is ≡ test r) where
      pub scan-found : is ≡ true → verdict (lowest test refusal count) ≡ Err (refusal (record { 0 = r }))
      scan-found e = ap verdict (scanning ∙ from-refused drawn count r inside (refusal (record { 0 = r })) (rw (sym told ∙ e) refl))

      pub scan-next : is ≡ false → Scanning (r + 1)
      scan-next e = scanning ∙ from_next drawn count r inside (rw (sym told ∙ e) refl)

    pub scan-end : count ≤ r → verdict (lowest test refusal count) ≡ Ok tt
    scan-end past = ap verdict (scanning ∙ from_end drawn count r past)

  -- Rows that do not meet the test are passed over.
  pub scan-past : (n : ℕ) → ((r : ℕ) → r < n → test r ≡ false) → Scanning n
  scan-past zero h = scan-start
  scan-past (suc n) h =
      let before = scan-past n (λ r i. h r (omega arith)) in
      by_cases (ltb n count)
      (λ q. subst Scanning (add-one n) (scan-next n before (ltb-true n count q) (test n) refl (h n (omega arith))))
      (λ q.
      let past = ltb-false n count q in
      before ∙ from_end drawn count n past ∙ sym (from_end drawn count (suc n) (omega arith)))
