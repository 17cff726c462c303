-- Where a row declares nothing, the arrays stand at it exactly if they stand at the row that it lies in.
-- Assumes nothing.
use Prim.Native.Nat.{ℕ, ◌+◌, ◌-◌, ◌*◌, ◌≤◌, ◌<◌}
use mathlib.Core.Path.{◌≡◌, sym, ap, ◌∙◌, subst}
use mathlib.Core.Bool.{true, false}
use mathlib.Core.List.{List}
use native.Mathlib.Omega.{arith}
use borrow.Author.Tests.{eqb-true, eqb-false}
use lib.Dec.{eqb}
use lib.ListN.{length, set}
use lib.Seq.{get_or-set_same, get_or-set_other}
use Rattle.rules.specs.Table.{TYPE, PARENT, row_count, word}
use Rattle.rules.proofs.Lists.{by_cases, true-not-false}
use Rattle.notes.specs.Notes.{LATEST, note_at}
use Rattle.scopes.specs.Rows.{up}
use Rattle.stacks.specs.Stacks.{NUMBERED, under_at, Untouched}
use Rattle.scopes.specs.Standing.{Standing, Ready}
use Rattle.scopes.proofs.Reading.{up-read, up_none}
use Rattle.scopes.proofs.Moving.{enter-start, enter-end, leave-start, leave-end}
use Rattle.near_rows.specs.Outward.{is_leaf, near_at, Near, Noted}

module _ (table notes : List ℕ) (r : ℕ) (within : r < row_count table) (none : note_at notes r LATEST ≡ 0) where
  row : r + 1 - 1 ≡ r
  row = omega arith

  head : 0 ≡ note_at notes (r + 1 - 1) LATEST
  head = sym (ap (λ (k : ℕ). note_at notes k LATEST) row ∙ none)

  pub stands-inside : (tops path : List ℕ) → Ready table notes tops path → Standing table notes tops path (up table (r + 1)) → Standing table notes tops path (r + 1)
  stands-inside tops path ready s =
      enter-end table notes (r + 1) (omega arith, omega arith) (enter-start table notes (r + 1) (omega arith, omega arith) tops path ready 0 head s)

  pub stands-outside : (tops path : List ℕ) → Ready table notes tops path → Standing table notes tops path (r + 1) → Standing table notes tops path (up table (r + 1))
  stands-outside tops path ready s =
      leave-end table notes (r + 1) (omega arith, omega arith) (leave-start table notes (r + 1) (omega arith, omega arith) tops path ready 0 head s)

  module _ (parent : ℕ) (read : parent ≡ word table r PARENT) where
    read_up : parent ≡ word table (r + 1 - 1) PARENT
    read_up = read ∙ ap (λ (k : ℕ). word table k PARENT) (sym row)

    pub near-parent : parent < r → {n : ℕ} → Near table notes n (parent + 1) → Near table notes n (r + 1)
    near-parent less {n} near =
        let above : parent + 1 ≡ up table (r + 1) = up-read table (r + 1) parent read_up (omega arith) in
        record {
          low = near.low;
          stands = λ tops path ready s. stands-inside tops path ready (subst (Standing table notes tops path) above (near.stands tops path ready s));
        }

    pub near_none : r ≤ parent → Near table notes 0 (r + 1)
    near_none past =
        let above : 0 ≡ up table (r + 1) = up_none table (r + 1) parent read_up (omega arith) in
        record { low = omega arith; stands = λ tops path ready s. stands-inside tops path ready (subst (Standing table notes tops path) above s) }

-- A row that declares something is its own nearest.
pub near-own : (table notes : List ℕ) (r : ℕ) → r < row_count table → {n : ℕ} → n ≡ r + 1 → Near table notes n (r + 1)
near-own table notes r within at = record { low = omega arith; stands = λ tops path ready s. subst (Standing table notes tops path) at s }

-- What is noted.
module _ (table notes path : List ℕ) where
  pub noted-kept : (n : ℕ) (path' : List ℕ) → Untouched path path' → Noted table notes path n → Noted table notes path' n
  noted-kept n path' kept noted r below inner = subst (λ (k : ℕ). Near table notes k (r + 1)) (sym (kept (r + 1))) (noted r below inner)

  module _ (r : ℕ) (noted : Noted table notes path r) where
    -- The first r + 1 rows are the first r ones and row r.
    pub noted-leaf : is_leaf (word table r TYPE) ≡ true → Noted table notes path (r + 1)
    noted-leaf leaf k below inner =
        by_cases (eqb k r)
        (λ t. absurd (true-not-false leaf (subst (λ (j : ℕ). is_leaf (word table j TYPE) ≡ false) (eqb-true k r t) inner)))
        (λ t. let other = eqb-false k r t in noted k (omega arith) inner)

    pub noted-next : (n : ℕ) → Near table notes n (r + 1) → 4 * r + 8 ≤ length path → Noted table notes (set path (4 * (r + 1) + NUMBERED) n) (r + 1)
    noted-next n near long k below inner =
        by_cases (eqb k r)
        (λ t. subst (λ (j : ℕ). Near table notes (near_at (set path (4 * (r + 1) + NUMBERED) n) j) (j + 1)) (sym (eqb-true k r t))
        (subst (λ (j : ℕ). Near table notes j (r + 1)) (sym (get_or-set_same path (4 * (r + 1) + NUMBERED) n 0 (omega arith))) near))
        (λ t.
        let other = eqb-false k r t in
        subst (λ (j : ℕ). Near table notes j (k + 1)) (sym (get_or-set_other path (4 * (r + 1) + NUMBERED) (4 * (k + 1) + NUMBERED) n 0 (λ z. other (omega arith)))) (noted k (omega arith) inner))

    pub xml-kept : (n : ℕ) → under_at (set path (4 * (r + 1) + NUMBERED) n) NUMBERED 0 ≡ under_at path NUMBERED 0
    xml-kept n = get_or-set_other path (4 * (r + 1) + NUMBERED) (4 * 0 + NUMBERED) n 0 (λ z. omega arith)
