-- How a lookup begins.
-- Assumes nothing.
use Rattle.std.specs.Prelude.{Ok, Err}
use Prim.Native.Nat.{ℕ, ◌+◌, ◌*◌, ◌≤◌, ◌<◌}
use native.Mathlib.Omega.{arith}
use mathlib.Core.Bool.{true, false, true≢false}
use mathlib.Core.List.{List}
use mathlib.Core.Option.{some}
use mathlib.Core.Path.{◌≡◌, sym, ap, ◌∙◌, subst}
use lib.Dec.{eqb, ltb}
use lib.ListN.{length, take, replicate, length-replicate, get_or-replicate, get_or-eq_default}
use lib.Seq.{length-take-le, get_or-take}
use borrow.Author.Tests.{ltb-true, ltb-false}
use Rattle.rules.specs.Lists.{same_bytes}
use Rattle.rules.specs.Table.{MOST_ROWS, row_count}
use Rattle.rules.specs.Refusals.{checked}
use Rattle.rules.specs.Lookups.{lookup_refusal}
use Rattle.rules.specs.declared.Refusal.{Refusal}
use Rattle.rules.specs.declared.NameId.{NameId}
use Rattle.rules.proofs.Lists.{by_cases}
use Rattle.rules.proofs.Accepted.{accepted, few-rows}
use Rattle.notes.specs.Notes.{NOTES, LATEST, note_at}
use Rattle.numbers.specs.Numbers.{Names}
use Rattle.dictionary.specs.Dictionary.{last_of, spelling}
use Rattle.row_checks.specs.Arrays.{dictionary_words, Named}
use Rattle.checker.specs.Lent.{Lent}
use Rattle.checker.proofs.Lending.{zeros-lent}
use Rattle.ancestors.specs.Paths.{Element, PathOf}
use Rattle.scopes.specs.Standing.{Linked}
use Rattle.declarations.specs.Along.{Along}
use Rattle.beginning.specs.Ground.{Blank, Unlinked, Ground, Begins}
use Rattle.beginning.proofs.Refused.{admitted}

pub few : (table pool : List ℕ) → checked table pool ≡ Ok tt → row_count table ≤ MOST_ROWS
few table pool is = few-rows table pool (accepted table pool is).size

-- Zeros are a dictionary to lend.
pub lent : (table notes : List ℕ) (most : ℕ) → (row_count table ≤ MOST_ROWS → row_count table ≤ most) → Blank table notes → Lent table (replicate (dictionary_words most) 0) notes
lent table notes most small blank =
    let zeros = zeros-lent table most small in
    record { cleared = zeros.cleared; words = zeros.words; records = blank.records }

-- Cleared notes have no links, and the check leaves it so.
zero-note : (size e k : ℕ) → ◌≡◌ {A = ℕ} (note_at (replicate size 0) e k) 0
unfolding note_at
zero-note size e k =
    by_cases (ltb (NOTES * e + k) size)
    (λ l. get_or-replicate size (NOTES * e + k) 0 0 (ltb-true (NOTES * e + k) size l))
    (λ l. let long = ltb-false (NOTES * e + k) size l in get_or-eq_default (replicate size 0) 0 (rw length-replicate long))

blank-note : (table notes : List ℕ) → Blank table notes → (e : ℕ) → note_at notes e LATEST ≡ 0
blank-note table notes blank e = ap (λ (l : List ℕ). note_at l e LATEST) blank.cleared ∙ zero-note (length notes) e LATEST

module _ (table pool : List ℕ) (r : ℕ) (name : List ℕ) where
  -- What begin answers.
  module _ (notes : List ℕ) where
    pub begun-refused :
        (x : Refusal) → lookup_refusal table pool r ≡ some x → Begins table pool r notes name (Err x)
    begun-refused x is = (λ n e. let bad : true ≡ false = cc in absurd (true≢false bad), λ y e. let same : x ≡ y = cc in is ∙ ap some same)

  module _ (before notes dictionary : List ℕ) (is : checked table pool ≡ Ok tt) (named : Named table pool dictionary notes) where
    pub few-numbers : last_of dictionary < 65535
    few-numbers = let most : row_count table ≤ MOST_ROWS = few table pool is in omega (arith, named.few)

    pub begun-asked :
        Blank table before → length notes ≡ length before → ((q k : ℕ) → LATEST ≤ k → k < NOTES → note_at notes q k ≡ note_at before q k) → r < row_count table
        → (k : NameId) → ((n : ℕ) (bytes : List ℕ) → Names (spelling dictionary pool) (last_of dictionary) n bytes → eqb n k.0 ≡ same_bytes bytes name)
        → Begins table pool r notes name (Ok k)
    begun-asked blank size kept within k asked = (
      λ n e. let same : k ≡ n = cc in
          subst (λ (j : NameId). Ground table pool r notes j.0 name) same
          (record {
            unrefused = admitted table pool r is within;
            within = within;
            unlinked =
                record {
                  few = few table pool is;
                  noted = rw size (blank.records (few table pool is));
                  none = λ e. kept e LATEST (omega arith) (omega arith) ∙ blank-note table before blank e;
                };
            meant = record { accepted = is; spelling = spelling dictionary pool; last = last_of dictionary; few = named.few; numbered = named.numbered; asked = asked };
          }),
      λ y e. cc,
    )

-- The links, and the path of elements.
pub climb-along :
    (table before notes path : List ℕ) (n : ℕ) → Unlinked table before → length notes ≡ length before → Linked table notes (row_count table) → PathOf table path n
    → Along table notes (take n path)
climb-along table before notes path n unlinked size linked of =
    record {
      ready = record { few = unlinked.few; noted = rw size unlinked.noted; linked = linked };
      elements = λ i inside.
          let less : i < n = subst (λ m. i < m) (length-take-le n path of.room) inside in
          subst (Element table) (sym (get_or-take n path i 0 less)) (of.each i less);
    }

-- A count that was read.
pub at_most : (n count most : ℕ) → count ≡ n → count ≤ most → n ≤ most
at_most n count most read small = omega arith
