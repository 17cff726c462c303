-- The arrays that normalization works in beside the table and the pool: the notes of the rows, and the path of scopes.
use Rattle.std.specs.Prelude.{ℕ, ◌+◌, ◌*◌, ◌≤◌, ◌<◌, List, ◌≡◌, length, get_or}
use Rattle.std.proofs.Math.Option.{none}
use Rattle.rules.specs.Table.{MOST_ROWS, nodes, row_count}
use Rattle.notes.specs.Notes.{NOTES, LATEST, note_at}
use Rattle.numbers.specs.Noted.{Numbered}
use Rattle.dictionary.specs.Dictionary.{last_of, spelling}
use Rattle.stacks.specs.Stacks.{BELOW, under_at}
use Rattle.working.specs.Working.{Numbers}
use Rattle.input.specs.Input.{input_refusal}

-- There is room for the rows of any result, which has at most twice those of its input.
pub record Enough (rows : ℕ) (notes path : List ℕ) : Type 0 where
  pub each : (n : ℕ) → n ≤ MOST_ROWS → n ≤ 2 * rows → (NOTES * n ≤ length notes) × (4 * n + 4 ≤ length path)

-- And they are cleared.
pub record Blank (rows : ℕ) (notes path : List ℕ) : Type 0 where
  pub enough : Enough rows notes path
  pub unnoted : (e k : ℕ) → note_at notes e k ≡ 0
  pub unplaced : (i : ℕ) → get_or path i 0 ≡ 0

-- The path has the numbers of the NS prefixes and of xml, and nothing is pushed on it. The last number is names.
pub record Entered (dictionary pool path : List ℕ) (names : ℕ) : Type 0 where
  pub most : names ≤ last_of dictionary + 1
  pub numbers :
      (table notes : List ℕ) (limit : ℕ) → Numbered table pool notes (spelling dictionary pool) (last_of dictionary) (row_count table)
      → limit ≤ MOST_ROWS → 4 * limit + 4 ≤ length path → Numbers (nodes table pool) notes path names limit
  pub unpushed : under_at path BELOW 0 ≡ 0

-- The input draws no refusal, and its names have their numbers; there are no links yet.
pub record Prepared (table pool notes path : List ℕ) (names : ℕ) : Type 0 where
  pub input : input_refusal table pool ≡ none
  pub few : names ≤ 3 * row_count table + 1
  pub numbers : (limit : ℕ) → limit ≤ MOST_ROWS → 4 * limit + 4 ≤ length path → Numbers (nodes table pool) notes path names limit
  pub unlinked : (e k : ℕ) → LATEST ≤ k → k < NOTES → note_at notes e k ≡ 0
  pub unpushed : under_at path BELOW 0 ≡ 0
