-- What a lookup has when it has begun.
use Rattle.std.specs.Prelude.{ℕ, ◌*◌, ◌≤◌, ◌<◌, List, ◌≡◌, length, replicate, Result, Ok, Err}
use Rattle.std.proofs.Math.Option.{none, some}
use Rattle.rules.specs.Table.{MOST_ROWS, row_count}
use Rattle.rules.specs.Lookups.{lookup_refusal}
use Rattle.rules.specs.declared.Refusal.{Refusal}
use Rattle.rules.specs.declared.NameId.{NameId}
use Rattle.notes.specs.Notes.{NOTES, LATEST, note_at}
use Rattle.declarations.specs.Meant.{Meant}

-- The notes are cleared, and there are enough. A table that is refused for its size needs none.
pub record Blank (table notes : List ℕ) : Type 0 where
  pub cleared : notes ≡ replicate (length notes) 0
  pub records : row_count table ≤ MOST_ROWS → NOTES * row_count table ≤ length notes

-- There are notes for all rows, without links.
pub record Unlinked (table notes : List ℕ) : Type 0 where
  pub few : row_count table ≤ MOST_ROWS
  pub noted : NOTES * row_count table ≤ length notes
  pub none : (e : ℕ) → note_at notes e LATEST ≡ 0

-- The lookup from row r is not refused, the table has the row, and the number is that of the name.
pub record Ground (table pool : List ℕ) (r : ℕ) (notes : List ℕ) (number : ℕ) (name : List ℕ) : Type 0 where
  pub unrefused : lookup_refusal table pool r ≡ none
  pub within : r < row_count table
  pub unlinked : Unlinked table notes
  pub meant : Meant table pool notes number name

-- What beginning a lookup from row r answers: the number of the name, or the refusal.
abbrev pub Begins : List ℕ → List ℕ → ℕ → List ℕ → List ℕ → Result NameId Refusal → Type 0
Begins table pool r notes name begun =
    ((number : NameId) → begun ≡ Ok number → Ground table pool r notes number.0 name)
    × ((x : Refusal) → begun ≡ Err x → lookup_refusal table pool r ≡ some x)
