-- What reading and checking a bundle answers.
-- Assumes nothing.
use Rattle.std.specs.Prelude.{Result, Ok, Err, ⊤}
use Prim.Native.Nat.{ℕ, ◌*◌, ◌≤◌}
use mathlib.Core.Path.{◌≡◌, sym, subst}
use mathlib.Core.Bool.{true, false, true≢false}
use mathlib.Core.List.{List}
use mathlib.Core.Option.{none, some}
use native.Mathlib.Omega.{arith}
use lib.ListN.{length, take, replicate, length-replicate}
use Rattle.rules.specs.Table.{WIDTH, MOST_ROWS, row_count}
use Rattle.rules.specs.Refusals.{check_refusal, checked}
use Rattle.rules.specs.declared.Refusal.{Refusal}
use Rattle.notes.specs.Notes.{NOTES}
use Rattle.bundles.specs.Bundles.{HEADER, bundle_rows, bundle_pool}
use Rattle.bundles.specs.Opening.{NamesAtMost, Opens}
use Rattle.bundles.proofs.Opening.{opened-few}
use Rattle.proposals.specs.Proposals.{bundle_check_refusal}
use Rattle.name_pairs.specs.Noted.{Noted}
use Rattle.proposal_check.proofs.Order.{accepted, refused}
use Rattle.bundle_proposals.specs.Numbering.{NotesFor, Numbered, Numbers}
use Rattle.bundle_proposals.proofs.Opening.{opened-refused}

-- New notes are notes for the rows that they were made for.
pub new-notes : (bytes : List ℕ) (most u : ℕ) → (HEADER ≤ length bytes → bundle_rows bytes ≤ MOST_ROWS → bundle_rows bytes ≤ most) → NotesFor bytes (replicate (NOTES * most) u)
new-notes bytes most u fits header few =
    let size = length-replicate {A = ℕ} (NOTES * most) u in
    omega (arith, fits header few)

-- What fails the check.
pub fails : (bytes buffer notes : List ℕ) (x : Refusal) → bundle_check_refusal bytes ≡ some x → Numbers bytes buffer notes (Err x)
fails bytes buffer notes x is = (λ n e. let bad : true ≡ false = cc in absurd (true≢false bad), λ y e. let same : x ≡ y = cc in subst (λ (z : Refusal). bundle_check_refusal bytes ≡ some z) same is)

-- A bundle that opens: its rows as a table.
module _ (bytes buffer : List ℕ) (n : ℕ) (opens : Opens bytes buffer n) (table : List ℕ) (first : table ≡ take (WIDTH * n) buffer) where
  pub few-rows : (most : ℕ) → NamesAtMost bytes most → row_count table ≤ most
  few-rows most names = rw first (opened-few bytes buffer n opens most names)

  pub notes-room : (notes : List ℕ) → NotesFor bytes notes → row_count table ≤ MOST_ROWS → NOTES * row_count table ≤ length notes
  notes-room notes room small =
      let inside = opens.inside in
      let rows = opens.rows in
      let most = opens.few in
      let few = few-rows n (λ header. omega arith) in
      let enough = room (omega arith) (omega arith) in
      omega arith

  module _ (pool notes : List ℕ) (rest : pool ≡ bundle_pool bytes) {answer : Result ⊤ Refusal} (told : answer ≡ checked table pool) where
    pub check-fails : (x : Refusal) → answer ≡ Err x → Numbers bytes buffer notes (Err x)
    check-fails x is = fails bytes buffer notes x (opened-refused bytes buffer n opens table pool first rest x (refused table pool told x is))

    pub numbered : answer ≡ Ok tt → Noted table pool notes → Numbers bytes buffer notes (Ok n)
    numbered is noted = (
      λ m e.
          let same : n ≡ m = cc in
          subst (λ (k : ℕ). Numbered bytes buffer notes k) same
          (record {
            opens = opens;
            accepted = rw (sym first, sym rest) (accepted table pool told is);
            noted = rw (sym first, sym rest) noted;
          }),
      λ x e. cc,
    )

-- A bundle that is numbered: its rows as a table, with its pool.
pub handed :
    (bytes buffer notes : List ℕ) (n : ℕ) → Numbered bytes buffer notes n → (table pool : List ℕ) → table ≡ take (WIDTH * n) buffer → pool ≡ bundle_pool bytes
    → (check_refusal table pool ≡ none) × Noted table pool notes
handed bytes buffer notes n is table pool first rest = rw (first, rest) (is.accepted, is.noted)
