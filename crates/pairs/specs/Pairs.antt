-- Pairs of places in two pools that are remembered because their parts are equal.
use Rattle.std.specs.Prelude.{ℕ, ◌+◌, ◌*◌, ◌≤◌, ◌≡◌, List, length, get_or, set, take}
use Rattle.rules.specs.Table.{MOST_BYTES, part}

-- How many pairs are remembered, and their words: the two offsets and the length of each.
abbrev pub SLOTS : ℕ
SLOTS = 512

abbrev pub WORDS : ℕ
WORDS = 1536

abbrev pub FIRST : ℕ
FIRST = 0

abbrev pub SECOND : ℕ
SECOND = 1

abbrev pub LENGTH : ℕ
LENGTH = 2

-- word k of slot s
abbrev pub pair_at : List ℕ → ℕ → ℕ → ℕ
pair_at pairs s k = get_or pairs (3 * s + k) 0

-- The other pool begins with the pool.
abbrev pub Alike : List ℕ → List ℕ → Type 0
Alike pool other = take (length pool) other ≡ pool

-- A place within a pool.
abbrev pub Within : List ℕ → ℕ → ℕ → Type 0
Within pool offset size = (offset + size ≤ length pool) × (length pool ≤ MOST_BYTES)

-- The two parts of each pair are equal.
pub record Pairs (pairs pool other : List ℕ) : Type 0 where
  pub words : WORDS ≤ length pairs
  pub equal : (s : ℕ) → part pool (pair_at pairs s FIRST) (pair_at pairs s LENGTH) ≡ part other (pair_at pairs s SECOND) (pair_at pairs s LENGTH)

-- the slots with a pair in slot s
unfoldable pub remembered : List ℕ → ℕ → ℕ → ℕ → ℕ → List ℕ
remembered pairs s first second size = set (set (set pairs (3 * s + FIRST) first) (3 * s + SECOND) second) (3 * s + LENGTH) size
