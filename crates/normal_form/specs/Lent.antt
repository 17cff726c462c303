-- The arrays that the normal form is made in.
use Rattle.std.specs.Prelude.{ℕ, ◌+◌, ◌*◌, ◌≤◌, ◌<◌, min, List, ◌≡◌, length, get_or, take}
use Rattle.rules.specs.Table.{WIDTH, MOST_ROWS, MOST_BYTES, row_count}
use Rattle.rules.proofs.Bounds.{Limit}
use Rattle.stacks.specs.Stacks.{TOPS}
use Rattle.input.specs.Lent.{Enough, Prepared}

-- The bytes of the working pool for any table: those of any pool, and the longest NS prefix for each row.
abbrev pub WORK : ℕ
WORK = MOST_BYTES + 6 * MOST_ROWS

-- The tops are cleared, and there is room in them for the numbers of so many rows' names, for that of xml and for one of each row that
-- is added. A table that is refused for its size needs none.
pub record Topped (rows : ℕ) (tops : List ℕ) : Type 0 where
  pub each : rows ≤ MOST_ROWS → (n : ℕ) → n ≤ MOST_ROWS → n ≤ 2 * rows → TOPS * (2 * rows + 1 + n) + TOPS ≤ length tops
  pub clear : (i : ℕ) → get_or tops i 0 ≡ 0

-- What `make_result` starts from.
pub record Ready (table work notes path tops : List ℕ) (rows bytes names limit : ℕ) : Type 0 where
  pub row_room : rows ≤ limit
  pub limit_small : limit ≤ MOST_ROWS
  pub table_room : WIDTH * min limit (2 * rows) ≤ length table
  pub pool_room : bytes + 6 * rows ≤ length work
  pub pool_small : length work < 65536
  pub enough : Enough rows notes path
  pub topped : Topped rows tops
  pub prepared : Prepared (take (WIDTH * rows) table) (take bytes work) notes path names

-- What `normalize_into` starts from.
pub record Lent (table pool out work notes path tops : List ℕ) (rows bytes names limit : ℕ) : Type 0 where
  pub count : rows ≡ row_count table
  pub held : bytes ≡ length pool
  pub limited : Limit (length out) limit
  pub size : length work ≡ WORK
  pub enough : Enough rows notes path
  pub topped : Topped rows tops
  pub prepared : Prepared table pool notes path names
