-- The pass over rows as most are: what holds before a row, and what a row that was passed is.
use Rattle.std.specs.Prelude.{ℕ, ◌≤◌, ◌≡◌, Bool, true, List}
use Rattle.std.proofs.Math.Option.{none}
use Rattle.rules.specs.Table.{nodes, row_count}
use Rattle.notes.specs.Notes.{PREFIX, LOCAL_NAME, URI, VALUE, noted}
use Rattle.numbers.specs.Noted.{Numbered}
use Rattle.dictionary.specs.Dictionary.{last_of, spelling, Dictionary}
use Rattle.faults.specs.Faults.{fault_refusal}
use Rattle.doubles.specs.Doubles.{Entered}
use Rattle.conflicts.specs.Conflicts.{conflict_refusal}
use Rattle.plain_rows.specs.Plain.{Inside}

-- All rows are entered.
abbrev pub every_row : ℕ → Bool
every_row r = true

-- The names of the rows before row r have their numbers, and these rows are entered.
pub record Reached (table pool dictionary notes chains : List ℕ) (r : ℕ) : Type 0 where
  pub bound : r ≤ row_count table
  pub right : Dictionary dictionary pool
  pub numbered : Numbered table pool notes (spelling dictionary pool) (last_of dictionary) r
  pub owned : Entered every_row table notes chains r

-- Row r stands under an element, and draws no refusal.
pub record Passed (table pool : List ℕ) (r : ℕ) : Type 0 where
  pub inside : Inside table r
  pub faultless : fault_refusal table pool r ≡ none
  pub alone : conflict_refusal every_row (nodes table pool) r ≡ none

-- the notes with the numbers of the names of row r, which is no declaration
unfoldable pub named : List ℕ → ℕ → ℕ → ℕ → ℕ → List ℕ
named notes r prefix local uri = noted (noted (noted (noted notes r PREFIX prefix) r LOCAL_NAME local) r URI uri) r VALUE 0
