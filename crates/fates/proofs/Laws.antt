-- The fate of a row, and what is noted of it.
-- Assumes nothing.
use Rattle.std.specs.Prelude.{Result, ⊤}
use Prim.Native.Nat.{ℕ, zero, suc, ◌+◌, ◌≤◌, ◌<◌}
use mathlib.Core.Path.{◌≡◌, refl, sym, ap, ◌∙◌}
use mathlib.Core.Bool.{Bool, true, false, ◌&&◌, ◌||◌, not}
use mathlib.Core.List.{List, [], ◌∷◌}
use mathlib.Core.Option.{Option, some}
use native.Mathlib.Nat.{not-suc-le-zero, zero-add}
use native.Mathlib.Omega.{arith}
use lib.Dec.{eqb, ltb}
use lib.ListN.{length, get_or, set, replicate}
use lib.Seq.{get_or-set_same, get_or-set_other}
use borrow.Author.Tests.{eqb-true, eqb-false, ltb-true, ltb-false}
use Rattle.rules.specs.Lists.{any_of, numbers_from}
use Rattle.rules.specs.Table.{Node}
use Rattle.rules.specs.Answers.{number_of, check_number}
use Rattle.rules.specs.Refusals.{verdict}
use Rattle.rules.specs.declared.Refusal.{Refusal}
use Rattle.rules.proofs.Lists.{by_cases, true-not-false, any_of-append}
use Rattle.rules.proofs.Result.{refusal-numbered}
use Rattle.dropped_rows.specs.Dropped.{drop_refusal, kept}
use Rattle.dropped_rows.proofs.Kept.{IsKept, either, kept_next, kept-not, numbers-end}
use Rattle.fates.specs.Fates.{keeps, fate_of, Fated}

-- A row is kept exactly where its fate is 0.
module _ (ns : List Node) (r : ℕ) where
  pub keeps-kept : IsKept ns r → keeps ns r ≡ true
  unfolding keeps
  keeps-kept k = rw k refl

  pub keeps-dropped : (x : Refusal) → drop_refusal ns (kept ns r) r ≡ some x → keeps ns r ≡ false
  unfolding keeps
  keeps-dropped x k = rw k refl

  pub kept-keeps : keeps ns r ≡ true → IsKept ns r
  kept-keeps e = either ns r (λ k. k) (λ x k. absurd (true-not-false e (keeps-dropped x k)))

  pub fate-kept : IsKept ns r → fate_of ns r ≡ 0
  unfolding fate_of check_number
  fate-kept k = ap (λ (o : Option Refusal). (check_number (verdict o)).number) k

  pub fate-dropped : (x : Refusal) → drop_refusal ns (kept ns r) r ≡ some x → eqb (fate_of ns r) 0 ≡ false
  unfolding fate_of check_number
  fate-dropped x k = ap (λ (o : Option Refusal). eqb (check_number (verdict o)).number 0) k ∙ refusal-numbered x

  pub fate-number : (x : Refusal) → drop_refusal ns (kept ns r) r ≡ some x → fate_of ns r ≡ (number_of x).number
  unfolding fate_of check_number
  fate-number x k = ap (λ (o : Option Refusal). (check_number (verdict o)).number) k

-- Of the first rows those that are kept.
pub kept_any : (ns : List Node) (test : ℕ → Bool) (r : ℕ) → any_of (λ (s : ℕ). keeps ns s && test s) (numbers_from 0 r) ≡ any_of test (kept ns r)
unfolding kept
kept_any ns test zero = refl
kept_any ns test (suc r) =
    let both : ℕ → Bool = λ (s : ℕ). keeps ns s && test s in
    let last : any_of both (numbers_from 0 (suc r)) ≡ (any_of test (kept ns r) || (both r || false)) =
    ap (any_of both) (sym (numbers-end 0 r)) ∙ any_of-append both (numbers_from 0 r) ((0 + r) ∷ [])
    ∙ ap (λ (k : ℕ). any_of both (numbers_from 0 r) || (both k || false)) (zero-add r) ∙ ap (λ (b : Bool). b || (both r || false)) (kept_any ns test r) in
    last
    ∙ either ns r
    (λ k. rw (keeps-kept ns r k) (sym (ap (any_of test) (kept_next ns r k) ∙ any_of-append test (kept ns r) (r ∷ []))))
    (λ x k. rw (keeps-dropped ns r x k) (or-false (any_of test (kept ns r)) ∙ sym (ap (any_of test) (kept-not ns r x k))))
  where
    or-false : (b : Bool) → (b || false) ≡ b
    or-false true = refl
    or-false false = refl

-- What is read of the fates.
module _ {ns : List Node} {fates : List ℕ} {n : ℕ} (g : Fated ns fates n) {r : ℕ} (h : r < n) {dropped : Bool} (d : dropped ≡ not (eqb (get_or fates r 0) 0)) where
  told : dropped ≡ not (eqb (fate_of ns r) 0)
  told = d ∙ ap (λ (k : ℕ). not (eqb k 0)) (g.below r h)

  pub told-kept : dropped ≡ false → IsKept ns r
  told-kept e =
      either ns r
      (λ k. k)
      (λ x k. absurd (true-not-false (rw (fate-dropped ns r x k) at told) e))

  pub told-dropped : {P : Type 0} → dropped ≡ true → ((x : Refusal) → drop_refusal ns (kept ns r) r ≡ some x → P) → P
  told-dropped e go =
      either ns r
      (λ k. absurd (true-not-false e (rw (fate-kept ns r k) at told)))
      go

-- Zeros are the fates before row 0.
zeros : (size q : ℕ) → get_or {A = ℕ} (replicate size 0) q 0 ≡ 0
zeros zero q = refl
zeros (suc size) zero = refl
zeros (suc size) (suc q) = zeros size q

pub fated-start : (ns : List Node) (size : ℕ) → Fated ns (replicate size 0) 0
fated-start ns size = record { below = λ q h. absurd (not-suc-le-zero h); above = λ q h. zeros size q }

module _ {ns : List Node} {fates : List ℕ} {r : ℕ} (g : Fated ns fates r) where
  -- The fate of row r is noted.
  pub fated-noted : r < length fates → {conflict : Result ⊤ Refusal} → conflict ≡ verdict (drop_refusal ns (kept ns r) r) → Fated ns (set fates r (check_number conflict).number) (r + 1)
  unfolding fate_of
  fated-noted h e =
      record {
        below = λ q i.
            by_cases (eqb q r)
            (λ t. let z = eqb-true q r t in rw z (get_or-set_same fates r _ 0 h ∙ ap (λ (c : Result ⊤ Refusal). (check_number c).number) e))
            (λ t. let z = eqb-false q r t in get_or-set_other fates r q _ 0 z ∙ g.below q (omega (arith, z, i)));
        above = λ q i. get_or-set_other fates r q _ 0 (λ z. omega (arith, i, z)) ∙ g.above q (omega arith);
      }

  -- Rows that are kept need no note.
  pub fated-passed : (s : ℕ) → r ≤ s → ((q : ℕ) → r ≤ q → q < s → IsKept ns q) → Fated ns fates s
  fated-passed s onward all =
      record {
        below = λ q i.
            by_cases (ltb q r)
            (λ t. g.below q (ltb-true q r t))
            (λ t. let past = ltb-false q r t in g.above q past ∙ sym (fate-kept ns q (all q past i)));
        above = λ q i. g.above q (omega arith);
      }
