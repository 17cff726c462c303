-- What is known of a whole pool, in one list of words: whether it is made, two bases, their polynomials, the ends of names
-- without and with colons, and the marks.
use Rattle.std.specs.Prelude.{ℕ, ◌+◌, ◌/◌, ◌%◌, ◌≤◌, ◌<◌, true, false, cond, List, eqb, length, get_or, set, drop}
use Rattle.marks.specs.Marks.{Marked}
use Rattle.ends.specs.Ends.{Ended}
use Rattle.hash.specs.Hash.{hash_of}
use Rattle.keyed.specs.Keyed.{sum_from}
use Rattle.sum_tables.specs.SumTables.{number_at, Filled}

abbrev pub MADE : ℕ
MADE = 0

abbrev pub ONE : ℕ
ONE = 1

abbrev pub TWO : ℕ
TWO = 3

abbrev pub SUMS : ℕ
SUMS = 5

abbrev pub PLAIN : ℕ
PLAIN = 2057

abbrev pub COLONS : ℕ
COLONS = 2187

abbrev pub MARKS : ℕ
MARKS = 2317

abbrev pub WORDS : ℕ
WORDS = 2833

-- the hash of a name by two bases
unfoldable pub keyed_hash : ℕ → ℕ → List ℕ → ℕ
keyed_hash one two name = (sum_from one 0 name + sum_from two 0 name) % 65536

-- the hash of a name: by the bases, once they are made
unfoldable pub hash_in : List ℕ → List ℕ → ℕ
hash_in tables name = cond (eqb (get_or tables MADE 0) 0) (hash_of name) (keyed_hash (number_at tables ONE) (number_at tables TWO) name)

pub record Made (tables pool : List ℕ) : Type 0 where
  pub sums : Filled pool (number_at tables ONE) (number_at tables TWO) (drop SUMS tables)
  pub plain : Ended false pool (drop PLAIN tables)
  pub colons : Ended true pool (drop COLONS tables)
  pub marks : Marked pool (drop MARKS tables)

pub record Tables (tables pool : List ℕ) : Type 0 where
  pub room : WORDS ≤ length tables
  pub made : 0 < get_or tables MADE 0 → Made tables pool

-- the tables with the bases written, and that they are made
unfoldable pub begun : List ℕ → ℕ → ℕ → List ℕ
begun tables one two = set (set (set (set (set tables MADE 1) ONE (one % 65536)) (ONE + 1) (one / 65536)) TWO (two % 65536)) (TWO + 1) (two / 65536)
