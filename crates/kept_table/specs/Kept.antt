-- The rows that are kept, by the fates of all, and their words with their parents' new numbers.
use Rattle.std.specs.Prelude.{ℕ, zero, suc, ◌+◌, ◌≤◌, ◌<◌, ◌≡◌, ◌⊎◌, cond, List, [], ◌++◌, eqb, length, get_or}
use Rattle.rules.specs.Table.{MOST_ROWS, NONE, PARENT, word, node_at, words_of, row_count}
use Rattle.salvage.specs.Salvage.{with_parent}

-- how many of the rows below r are kept
unfoldable pub kept_count : List ℕ → ℕ → ℕ
kept_count fates zero = 0
kept_count fates (suc r) = let before = kept_count fates r in cond (eqb (get_or fates r 0) 0) (before + 1) before

-- a parent's new number: how many rows before it are kept; NONE stays
unfoldable pub parent_among : List ℕ → ℕ → ℕ
parent_among fates parent = cond (eqb parent NONE) NONE (kept_count fates parent)

-- the words of row r with another parent; no pool matters
abbrev pub row_words : List ℕ → ℕ → ℕ → List ℕ
row_words table r parent = words_of (with_parent parent (node_at table [] r))

-- the words of the rows below r that are kept
unfoldable pub kept_words : List ℕ → List ℕ → ℕ → List ℕ
kept_words table fates zero = []
kept_words table fates (suc r) =
    let before = kept_words table fates r in
    cond (eqb (get_or fates r 0) 0) (before ++ row_words table r (parent_among fates (word table r PARENT))) before

-- the number of a parent, by an array of the numbers of the rows
unfoldable pub renumbered : List ℕ → ℕ → ℕ
renumbered numbers parent = cond (eqb parent NONE) NONE (get_or numbers parent 0)

-- Every row has a fate, and stands behind its parent.
pub record Sorted (table fates : List ℕ) : Type 0 where
  pub few : row_count table ≤ MOST_ROWS
  pub noted : row_count table ≤ length fates
  pub behind : (r : ℕ) → r < row_count table → (word table r PARENT ≡ NONE) ⊎ (word table r PARENT < r)
