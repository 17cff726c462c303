-- The result of a normalization in place.
use Rattle.std.specs.Prelude.{ℕ, ◌+◌, ◌*◌, ◌≤◌, ◌<◌, min, List, ◌≡◌, length, take, Result, Ok}
use Rattle.rules.specs.Table.{WIDTH, MOST_ROWS, MOST_BYTES, nodes, words}
use Rattle.rules.specs.Normalization.{State, normal_form, normalized}
use Rattle.rules.specs.declared.Refusal.{Refusal}
use Rattle.rules.specs.declared.Filled.{Filled}

-- The normal form of the first rows of a table over the first bytes of a pool.
abbrev pub form_of : List ℕ → List ℕ → ℕ → ℕ → State
form_of table pool rows bytes = normal_form (nodes (take (WIDTH * rows) table) (take bytes pool)) (take bytes pool)

-- There is room for the result of so many rows and bytes, whatever they hold: it has at most twice the rows, no more than a table may,
-- and for each of these rows at most six bytes more.
pub record RoomFor (table pool : List ℕ) (rows bytes : ℕ) : Type 0 where
  pub few : rows ≤ MOST_ROWS
  pub table_room : WIDTH * min MOST_ROWS (2 * rows) ≤ length table
  pub pool_room : bytes + 6 * rows ≤ length pool
  pub pool_small : length pool < 65536

-- A state of so many rows and bytes stands at the start of a table and a pool.
pub record Holds (table pool : List ℕ) (rows bytes : ℕ) (made : State) : Type 0 where
  pub table_room : WIDTH * rows ≤ length table
  pub pool_room : bytes ≤ length pool
  pub words : take (WIDTH * rows) table ≡ words made.rows
  pub held : take bytes pool ≡ made.pool

-- What a normalization of a table and its pool in place answers and leaves: where it is done, the result stands in the buffers.
pub record Made (answer : Result Filled Refusal) (buffer work table pool : List ℕ) : Type 0 where
  pub told : answer ≡ (normalized table pool (WIDTH * MOST_ROWS) MOST_BYTES).answer
  pub holds : (rows bytes : ℕ) → answer ≡ Ok (record { rows = rows; bytes = bytes }) → Holds buffer work rows bytes (normal_form (nodes table pool) pool)
