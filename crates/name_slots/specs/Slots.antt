-- The slots that remember which prefix stands for which URI at which position.
use Rattle.std.specs.Prelude.{ℕ, ◌+◌, ◌*◌, ◌≡◌, false, List, eqb, get_or, set}
use Rattle.rules.specs.Table.{TYPE, ELEMENT, word}
use Rattle.notes.specs.Notes.{PREFIX, URI, note_at}

-- How many are remembered, and the words of each: the position, and the numbers of the prefix and of the URI.
abbrev pub SLOTS : ℕ
SLOTS = 256

abbrev pub WORDS : ℕ
WORDS = 768

abbrev pub NEAR : ℕ
NEAR = 0

abbrev pub DECLARED : ℕ
DECLARED = 1

abbrev pub STANDS : ℕ
STANDS = 2

-- word k of slot s
abbrev pub known_at : List ℕ → ℕ → ℕ → ℕ
known_at known s k = get_or known (3 * s + k) 0

-- A slot remembers that row r's prefix stands for its URI at position n; an attribute has a prefix.
pub record Held (table notes known : List ℕ) (r n : ℕ) : Type 0 where
  pub slot : ℕ
  pub near : known_at known slot NEAR ≡ n
  pub prefix : known_at known slot DECLARED ≡ note_at notes r PREFIX
  pub uri : known_at known slot STANDS ≡ note_at notes r URI
  pub named : eqb (word table r TYPE) ELEMENT ≡ false → (note_at notes r PREFIX ≡ 0 → ⊥)

-- the slots with this in slot s
unfoldable pub remembered : List ℕ → ℕ → ℕ → ℕ → ℕ → List ℕ
remembered known s n p u = set (set (set known (3 * s + NEAR) n) (3 * s + DECLARED) p) (3 * s + STANDS) u
