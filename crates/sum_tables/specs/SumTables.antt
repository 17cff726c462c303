-- A table of polynomials over a pool.
use Rattle.std.specs.Prelude.{ℕ, ◌+◌, ◌*◌, ◌/◌, ◌%◌, ◌≤◌, ◌≡◌, List, length, get_or, set, take}
use Rattle.keyed.specs.Keyed.{sum_from}

-- The words of the table of the largest pool.
abbrev pub WORDS : ℕ
WORDS = 2052

-- a number of 32 bits in two words, the lower first
abbrev pub number_at : List ℕ → ℕ → ℕ
number_at table i = get_or table i 0 + 65536 * get_or table (i + 1) 0

unfoldable pub put : List ℕ → ℕ → ℕ → List ℕ
put table i x = set (set table i (x % 65536)) (i + 1) (x / 65536)

unfoldable pub put_row : List ℕ → ℕ → ℕ → ℕ → List ℕ
put_row table k sum1 sum2 = put (put table (4 * k) sum1) (4 * k + 2) sum2

-- Row k of a table: the polynomials of the first k blocks of 64 bytes.
pub record Row (pool : List ℕ) (base1 base2 : ℕ) (table : List ℕ) (k : ℕ) : Type 0 where
  pub sum1 : number_at table (4 * k) ≡ sum_from base1 0 (take (64 * k) pool)
  pub sum2 : number_at table (4 * k + 2) ≡ sum_from base2 0 (take (64 * k) pool)

abbrev pub Filled : List ℕ → ℕ → ℕ → List ℕ → Type 0
Filled pool base1 base2 table = (k : ℕ) → 64 * k ≤ length pool → Row pool base1 base2 table k
