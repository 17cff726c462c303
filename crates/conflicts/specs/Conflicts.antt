-- What one row is refused for among those that are entered, and what becomes of it.
use Rattle.std.specs.Prelude.{ℕ, ◌+◌, ◌*◌, ◌≤◌, Bool, List, [], ◌∷◌, length, Result, Ok, Err, ⊤}
use Rattle.std.proofs.Math.Option.{Option}
use Rattle.rules.specs.Table.{Node, node}
use Rattle.rules.specs.Refusals.{refused_if, first_refusal, bad_declaration}
use Rattle.rules.specs.declared.Refusal.{Refusal}
use Rattle.notes.specs.Notes.{LOCAL_NAME, VALUE, note_at}
use Rattle.entries.specs.Entries.{NAMES, WIDTH}
use Rattle.dictionary.specs.Dictionary.{PLACES}
use Rattle.doubles.specs.Doubles.{entered, has_double}

-- the first conflict of row r: 6, or else 7 against an earlier row that is entered
abbrev pub conflict_refusal : (ℕ → Bool) → List Node → ℕ → Option Refusal
conflict_refusal enters ns r =
    first_refusal
    (refused_if (bad_declaration (node ns r)) (Refusal.Declaration (record { 0 = r }))
    ∷ refused_if (has_double enters ns r) (Refusal.Double (record { 0 = r }))
    ∷ [])

-- The local name and the value of row r have numbers of the dictionary.
pub record Known (dictionary notes : List ℕ) (r : ℕ) : Type 0 where
  pub local : PLACES + NAMES + WIDTH * note_at notes r LOCAL_NAME + WIDTH ≤ length dictionary
  pub value : PLACES + NAMES + WIDTH * note_at notes r VALUE + WIDTH ≤ length dictionary

-- the chains after row r, of bucket b: it is entered unless it is refused
unfoldable pub settled : Result ⊤ Refusal → List ℕ → ℕ → ℕ → List ℕ
settled (Ok tt) chains b r = entered chains b r
settled (Err x) chains b r = chains
