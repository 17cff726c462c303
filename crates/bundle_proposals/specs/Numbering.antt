-- A bundle that is read and checked, and whose names have numbers.
use Rattle.std.specs.Prelude.{ℕ, ◌*◌, ◌≤◌, ◌≡◌, List, length, take, Result, Ok, Err}
use Rattle.std.proofs.Math.Option.{none, some}
use Rattle.rules.specs.Table.{WIDTH, MOST_ROWS}
use Rattle.rules.specs.Refusals.{check_refusal}
use Rattle.rules.specs.declared.Refusal.{Refusal}
use Rattle.notes.specs.Notes.{NOTES}
use Rattle.bundles.specs.Bundles.{HEADER, bundle_rows, bundle_pool}
use Rattle.bundles.specs.Opening.{Opens}
use Rattle.proposals.specs.Proposals.{bundle_check_refusal}
use Rattle.name_pairs.specs.Noted.{Noted}

-- There are notes for the rows that the bytes name, if these are not too many.
abbrev pub NotesFor : List ℕ → List ℕ → Type 0
NotesFor bytes notes = HEADER ≤ length bytes → bundle_rows bytes ≤ MOST_ROWS → NOTES * bundle_rows bytes ≤ length notes

-- The bytes are a bundle of n rows, which stand at the start of the buffer and pass the check, and the notes have the numbers of their names.
pub record Numbered (bytes buffer notes : List ℕ) (n : ℕ) : Type 0 where
  pub opens : Opens bytes buffer n
  pub accepted : check_refusal (take (WIDTH * n) buffer) (bundle_pool bytes) ≡ none
  pub noted : Noted (take (WIDTH * n) buffer) (bundle_pool bytes) notes

-- What reading and checking the bytes answers: the rows, with their numbers, or the refusal.
abbrev pub Numbers : List ℕ → List ℕ → List ℕ → Result ℕ Refusal → Type 0
Numbers bytes buffer notes answer =
    ((n : ℕ) → answer ≡ Ok n → Numbered bytes buffer notes n) × ((x : Refusal) → answer ≡ Err x → bundle_check_refusal bytes ≡ some x)
