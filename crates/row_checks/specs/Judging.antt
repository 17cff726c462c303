-- The pass over the rows, in which rows may be dropped for their conflicts: what holds before a row, and what it answers.
use Rattle.std.specs.Prelude.{ℕ, ◌*◌, ◌≤◌, ◌<◌, ◌≡◌, Bool, true, false, cond, List, [], ◌∷◌, length, Result, Ok, Err, ⊤}
use Rattle.std.proofs.Math.Option.{Option, none}
use Rattle.rules.specs.Table.{row_count, nodes}
use Rattle.rules.specs.Refusals.{first_refusal, lowest_refusal, unless_refused}
use Rattle.rules.specs.declared.Refusal.{Refusal}
use Rattle.numbers.specs.Noted.{Numbered}
use Rattle.dictionary.specs.Dictionary.{last_of, spelling, Dictionary}
use Rattle.faults.specs.Faults.{fault_refusal}
use Rattle.doubles.specs.Doubles.{Entered}
use Rattle.dropped_rows.specs.Dropped.{drop_refusal, kept, drops_below}
use Rattle.fates.specs.Fates.{keeps, Fated}
use Rattle.rules.specs.declared.Salvaged.{Salvaged}

-- the verdict that an answer stands for
unfoldable pub checked_of : Result Salvaged Refusal → Result ⊤ Refusal
checked_of (Ok kept) = Ok tt
checked_of (Err x) = Err x

-- the first fault of the rows
abbrev pub rows_fault : List ℕ → List ℕ → Option Refusal
rows_fault table pool = lowest_refusal (fault_refusal table pool) (row_count table)

-- what is answered where rows are dropped: the first fault, or how many rows are kept and how many dropped
unfoldable pub judged : List ℕ → List ℕ → Result Salvaged Refusal
judged table pool =
    unless_refused (rows_fault table pool) Err
    (Ok (record { rows = length (kept (nodes table pool) (row_count table)); dropped = length (drops_below (nodes table pool) (row_count table)) }))

-- It was answered, and the fates of all rows are noted unless one has a fault.
pub record Judged (table pool fates : List ℕ) (answer : Result Salvaged Refusal) : Type 0 where
  pub given : answer ≡ judged table pool
  pub fated : rows_fault table pool ≡ none → Fated (nodes table pool) fates (row_count table)

-- what row r is refused for: its fault, and its conflict with kept rows unless rows are dropped for theirs
unfoldable pub step_refusal : Bool → List ℕ → List ℕ → ℕ → Option Refusal
step_refusal drops table pool r =
    cond drops (fault_refusal table pool r) (first_refusal (fault_refusal table pool r ∷ drop_refusal (nodes table pool) (kept (nodes table pool) r) r ∷ []))

-- The rows before row r have no fault, and if rows are not dropped no conflict. Their names have numbers, their fates are noted if
-- rows are dropped, and those that are kept are entered.
pub record Going (drops : Bool) (table pool dictionary notes chains fates : List ℕ) (r : ℕ) : Type 0 where
  pub bound : r ≤ row_count table
  pub right : Dictionary dictionary pool
  pub few : last_of dictionary ≤ 3 * r
  pub numbered : Numbered table pool notes (spelling dictionary pool) (last_of dictionary) r
  pub owned : Entered (keeps (nodes table pool)) table notes chains r
  pub fated : drops ≡ true → Fated (nodes table pool) fates r
  pub faultless : (q : ℕ) → q < r → fault_refusal table pool q ≡ none
  pub alone : drops ≡ false → (q : ℕ) → q < r → drop_refusal (nodes table pool) (kept (nodes table pool) q) q ≡ none

-- And so many of them are dropped.
pub record Counted (drops : Bool) (table pool dictionary notes chains fates : List ℕ) (dropped r : ℕ) : Type 0 where
  pub going : Going drops table pool dictionary notes chains fates r
  pub count : dropped ≡ length (drops_below (nodes table pool) r)

-- This holds of some fates.
pub record SomeGoing (table pool dictionary notes chains : List ℕ) (dropped r : ℕ) : Type 0 where
  pub drops : Bool
  pub fates : List ℕ
  pub those : Counted drops table pool dictionary notes chains fates dropped r
