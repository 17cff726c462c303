-- The arrays stand at a position: the scope that they hold answers as the position's scope does by definition.
use Rattle.std.specs.Prelude.{ℕ, ◌+◌, ◌-◌, ◌*◌, ◌≤◌, ◌<◌, ◌≡◌, List, [], ◌∷◌, ◌++◌, length}
use Rattle.rules.specs.Lists.{gathered}
use Rattle.rules.specs.Table.{MOST_ROWS, row_count}
use Rattle.chains.specs.Chains.{Chained}
use Rattle.notes.specs.Notes.{NOTES, LATEST, PREVIOUS, note_at}
use Rattle.stacks.specs.Scopes.{nearest, serving, Alike, Each}
use Rattle.stacks.specs.Stacks.{TOPS, PATH, prefix_at, value_at, On}
use Rattle.scopes.specs.Rows.{owner_of, own_rows, outward, scope_rows, Grown}

-- The position is that of a declaration of the table, whose owner is row e or an earlier one.
pub record Member (table : List ℕ) (e d : ℕ) : Type 0 where
  pub row : 0 < d
  pub within : d ≤ row_count table
  pub owned : owner_of table d ≤ e

-- The scope is made of layers, one for each row outward: as many positions as the row has declarations. From each layer outward it
-- answers as by definition.
pub record Layer (table : List ℕ) (pre val : ℕ → ℕ) (e : ℕ) (outer own scope : List ℕ) : Type 0 where
  pub count : length own ≡ length (own_rows table e)
  pub members : Each (Member table e) (own ++ scope)
  pub alike : Alike pre val (own ++ scope) (gathered (own_rows table) (e ∷ outer))

pub data Layers (table : List ℕ) (pre val : ℕ → ℕ) : List ℕ → List ℕ → Type 0 where
  outside : Layers table pre val [] []
  layer :
      {e : ℕ} {outer own scope : List ℕ} → Layer table pre val e outer own scope → Layers table pre val outer scope
      → Layers table pre val (e ∷ outer) (own ++ scope)

-- The arrays stand at position q. What is in scope there is read off them by the laws of proofs/Answers.antt.
pub record Standing (table notes tops path : List ℕ) (q : ℕ) : Type 0 where
  pub scope : List ℕ
  pub on : On notes tops path scope
  pub layers : Layers table (prefix_at notes) (value_at notes) (outward table q) scope

-- The declarations among the first n rows are linked: each row's last one, and each one's previous.
abbrev pub Linked : List ℕ → List ℕ → ℕ → Type 0
Linked table notes n =
    Chained MOST_ROWS (owner_of table) (λ e. note_at notes e LATEST) (λ d. note_at notes (d - 1) PREVIOUS) n

-- The arrays have room for the table's rows and their numbers.
pub record Room (table notes tops path : List ℕ) : Type 0 where
  pub small : row_count table ≤ MOST_ROWS
  pub noted : NOTES * row_count table ≤ length notes
  pub placed : PATH * row_count table + PATH ≤ length path
  pub prefixes : (d : ℕ) → 0 < d → d ≤ row_count table → TOPS * prefix_at notes d + TOPS ≤ length tops
  pub values : (d : ℕ) → 0 < d → d ≤ row_count table → TOPS * value_at notes d + TOPS ≤ length tops

-- The links may have changed, and no other word of the notes.
abbrev pub Relinked : List ℕ → List ℕ → Type 0
Relinked notes notes' =
    (r k : ℕ) → k < NOTES → (k ≡ LATEST → ⊥) → (k ≡ PREVIOUS → ⊥) → note_at notes' r k ≡ note_at notes r k

-- What moving needs: room, and links.
pub record Ready (table notes tops path : List ℕ) : Type 0 where
  pub room : Room table notes tops path
  pub linked : Linked table notes (row_count table)

-- The table's last row is a new declaration of the row at position q, where the arrays stand. Its prefix has no declaration in scope
-- there, and its value no serving one.
pub record Declaring (table notes tops path : List ℕ) (q : ℕ) : Type 0 where
  pub before : List ℕ
  pub grown : Grown before table (q - 1)
  pub position : 0 < q
  pub standing : Standing before notes tops path q
  pub linked : Linked before notes (row_count before)
  pub new : nearest (prefix_at notes) (scope_rows before q) (prefix_at notes (row_count table)) ≡ 0
  pub needed : serving (prefix_at notes) (value_at notes) (scope_rows before q) (value_at notes (row_count table)) ≡ []
