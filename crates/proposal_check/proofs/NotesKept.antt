-- What the check of a table leaves in the notes.
-- Assumes nothing.
use Rattle.std.specs.Prelude.{Result, Ok, ⊤}
use Prim.Native.Nat.{ℕ, ◌*◌, ◌≤◌}
use mathlib.Core.Path.{◌≡◌, sym, ◌∙◌}
use mathlib.Core.List.{List}
use native.Mathlib.Omega.{arith}
use lib.ListN.{length, replicate, length-replicate}
use Rattle.rules.specs.Table.{MOST_ROWS, row_count}
use Rattle.rules.specs.Refusals.{checked}
use Rattle.rules.proofs.Accepted.{accepted, few-rows}
use Rattle.notes.specs.Notes.{NOTES}
use Rattle.dictionary.specs.Dictionary.{last_of, spelling}
use Rattle.row_checks.specs.Arrays.{dictionary_words, Named}
use Rattle.checker.specs.Lent.{Lent}
use Rattle.checker.proofs.Lending.{zeros-lent}
use Rattle.name_pairs.specs.Noted.{Noted}
use Rattle.rules.specs.declared.Refusal.{Refusal}

-- New notes have room for the rows that they were made for.
pub new-notes : (table : List ℕ) (most u : ℕ) → (row_count table ≤ MOST_ROWS → row_count table ≤ most) → row_count table ≤ MOST_ROWS → NOTES * row_count table ≤ length (replicate (NOTES * most) u)
new-notes table most u fits few =
    let size = length-replicate {A = ℕ} (NOTES * most) u in
    rw size (omega (arith, fits few))

-- Zeros are a dictionary to lend.
pub lent : (table notes : List ℕ) (most : ℕ) → (row_count table ≤ MOST_ROWS → row_count table ≤ most) → (row_count table ≤ MOST_ROWS → NOTES * row_count table ≤ length notes) → Lent table (replicate (dictionary_words most) 0) notes
lent table notes most small room =
    let zeros = zeros-lent table most small in
    record { cleared = zeros.cleared; words = zeros.words; records = room }

-- Notes in which the names have their numbers, by a dictionary that nobody needs any more.
pub named-noted :
    (table pool before dictionary notes : List ℕ) → (row_count table ≤ MOST_ROWS → NOTES * row_count table ≤ length before) → length notes ≡ length before
    → {answer : Result ⊤ Refusal} → answer ≡ checked table pool → (answer ≡ Ok tt → Named table pool dictionary notes) → answer ≡ Ok tt → Noted table pool notes
named-noted table pool before dictionary notes room size told named is =
    record {
      spelling = spelling dictionary pool;
      last = last_of dictionary;
      few = (named is).few;
      records = rw size (room (few-rows table pool (accepted table pool (sym told ∙ is)).size));
      numbered = (named is).numbered;
    }
