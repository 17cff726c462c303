-- A dictionary: the places seen, and the entries.
use Rattle.std.specs.Prelude.{ℕ, ◌+◌, ◌*◌, ◌<◌, Bool, List, ltb, get_or, set, drop}
use Rattle.rules.specs.Table.{part}
use Rattle.entries.specs.Entries.{HARD, MUCH, last_number, name_at, Entries, Denotes}

-- How many places are remembered, and their words: the offset, the length and the number of each.
abbrev pub SLOTS : ℕ
SLOTS = 1024

abbrev pub PLACES : ℕ
PLACES = 3072

abbrev pub OFFSET : ℕ
OFFSET = 0

abbrev pub LENGTH : ℕ
LENGTH = 1

abbrev pub NUMBER : ℕ
NUMBER = 2

-- word k of slot s
abbrev pub seen : List ℕ → ℕ → ℕ → ℕ
seen dictionary s k = get_or dictionary (3 * s + k) 0

-- the entries behind the places
unfoldable pub entries_of : List ℕ → List ℕ
entries_of dictionary = drop PLACES dictionary

-- the last number given, and the name of a number
abbrev pub last_of : List ℕ → ℕ
last_of dictionary = last_number (entries_of dictionary)

-- The names are hard for the plain hash.
abbrev pub is_hard : List ℕ → Bool
is_hard dictionary = ltb MUCH (get_or (entries_of dictionary) HARD 0)

abbrev pub spelling : List ℕ → List ℕ → ℕ → List ℕ
spelling dictionary pool = name_at (entries_of dictionary) pool

-- The number beside a place denotes the name that stands there; beside the place 0, 0 that is the empty name.
pub record Dictionary (dictionary pool : List ℕ) : Type 0 where
  pub entries : Entries (entries_of dictionary) pool
  pub places : (s : ℕ) → s < SLOTS → Denotes (entries_of dictionary) pool (seen dictionary s NUMBER) (part pool (seen dictionary s OFFSET) (seen dictionary s LENGTH))

-- the dictionary with a place and its number in slot s
unfoldable pub remembered : List ℕ → ℕ → ℕ → ℕ → ℕ → List ℕ
remembered dictionary s offset size number = set (set (set dictionary (3 * s + OFFSET) offset) (3 * s + LENGTH) size) (3 * s + NUMBER) number
