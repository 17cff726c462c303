-- The numbers of the names NSk are entered, name after name.
-- Assumes nothing.
use Prim.Native.Nat.{ℕ, ◌+◌, ◌*◌, ◌%◌, ◌≤◌, ◌<◌}
use mathlib.Core.Path.{◌≡◌, refl, sym, ap, ◌∙◌}
use mathlib.Core.Bool.{true, cond, ◌&&◌, and-false}
use mathlib.Core.List.{List}
use native.Mathlib.Omega.{arith}
use native.Mathlib.Numerals.{add-one}
use borrow.Author.Tests.{eqb-true, eqb-false, lt-ltb, le-ltb}
use lib.Dec.{eqb, ltb}
use lib.ListN.{length, get_or, set, length-set}
use lib.Seq.{get_or-set_same, get_or-set_other}
use Rattle.rules.specs.Lists.{same_bytes}
use Rattle.rules.specs.Normalization.{numbered_prefix}
use Rattle.rules.proofs.Lists.{by_cases, true-both}
use Rattle.chains.specs.Chains.{latest}
use Rattle.numbers.specs.Numbers.{number_in}
use Rattle.ns_names.specs.Numbers.{number_of}
use Rattle.ns_names.specs.Records.{RECORD, NUMBERED, numbered_at, entered, Entered}
use Rattle.ns_names.proofs.Reading.{number_same}

pub length-entered : (records : List ℕ) (k number : ℕ) → length (entered records k number) ≡ length records
unfolding entered
length-entered records k number =
    by_cases (ltb 0 k && ltb (RECORD * k + NUMBERED) (length records)) (λ e. rw e (length-set records (RECORD * k + NUMBERED) number)) (λ e. rw e)

-- As the code does it: for 0 and past the last record nothing is entered.
module _ (records : List ℕ) (k number : ℕ) where
  pub entered-none : k ≤ 0 → records ≡ entered records k number
  unfolding entered
  entered-none h = rw (le-ltb 0 k h)

  pub entered-past : length records ≤ RECORD * k + NUMBERED → records ≡ entered records k number
  unfolding entered
  entered-past h = rw (le-ltb (RECORD * k + NUMBERED) (length records) h, and-false)

  pub entered_here : 0 < k → RECORD * k + NUMBERED < length records → set records (RECORD * k + NUMBERED) number ≡ entered records k number
  unfolding entered
  entered_here h i = rw (lt-ltb 0 k h, lt-ltb (RECORD * k + NUMBERED) (length records) i)

-- Words that are no number are kept.
entered-other : (records : List ℕ) (k number i : ℕ) → (i % RECORD ≡ NUMBERED → ⊥) → get_or (entered records k number) i 0 ≡ get_or records i 0
unfolding entered
entered-other records k number i o =
    by_cases (ltb 0 k && ltb (RECORD * k + NUMBERED) (length records))
    (λ e. rw e (get_or-set_other records (RECORD * k + NUMBERED) i number 0 (λ s. o (omega arith))))
    (λ e. rw e)

-- The number is entered in its record alone.
entered_at :
    (records : List ℕ) (k number j : ℕ) → 1 ≤ j → RECORD * j + NUMBERED < length records → numbered_at (entered records k number) j ≡ cond (eqb k j) number (numbered_at records j)
unfolding entered
entered_at records k number j one h =
    by_cases (eqb k j)
    (λ e.
    let s = eqb-true k j e in
    let in-range : (ltb 0 k && ltb (RECORD * k + NUMBERED) (length records)) ≡ true = true-both (lt-ltb 0 k (omega arith)) (lt-ltb (RECORD * k + NUMBERED) (length records) (omega arith)) in
    rw (e, in-range, s) (get_or-set_same records (RECORD * j + NUMBERED) number 0 h))
    (λ e.
    let s = eqb-false k j e in
    rw e
    (by_cases (ltb 0 k && ltb (RECORD * k + NUMBERED) (length records))
    (λ r. rw r (get_or-set_other records (RECORD * k + NUMBERED) (RECORD * j + NUMBERED) number 0 (λ i. s (omega arith))))
    (λ r. rw r)))

module _ (spelling : ℕ → List ℕ) (before : List ℕ) where
  pub entered-start : ((k : ℕ) → numbered_at before k ≡ 0) → Entered spelling 0 before before
  unfolding latest
  entered-start zero = record { numbers = λ k one few h. zero k; others = λ i o. refl }

  pub entered-next :
      {now : List ℕ} {n : ℕ} → Entered spelling n before now → {name : List ℕ} → name ≡ spelling (n + 1) → {k : ℕ} → k ≡ number_of name → {after : List ℕ} → after ≡ entered now k (n + 1)
      → Entered spelling (n + 1) before after
  unfolding latest
  entered-next {now} {n} e {name} is {k} read made =
      rw made
      (record {
        numbers = λ j one few h.
            let inside : RECORD * j + NUMBERED < length now = rw length-entered at h in
            let same : same_bytes (spelling (n + 1)) (numbered_prefix j) ≡ eqb k j = rw (← is, read) (number_same name j one few) in
            entered_at now k (n + 1) j one inside ∙ ap (cond (eqb k j) (n + 1)) (e.numbers j one few inside) ∙ rw (add-one, ← add-one) (sym (ap (λ t. cond t (n + 1) (number_in spelling n (numbered_prefix j))) same));
        others = λ i o. entered-other now k (n + 1) i o ∙ e.others i o;
      })
