-- The working buffers as normalization goes through the elements. total is the number of the input's rows.
use Rattle.std.specs.Prelude.{ℕ, suc, ◌+◌, ◌*◌, ◌≤◌, ◌<◌, true, List, ◌≡◌, length, take}
use Rattle.rules.specs.Lists.{all_of}
use Rattle.rules.specs.Table.{WIDTH, ELEMENT, Node, node, words}
use Rattle.rules.specs.Normalization.{State, is_attribute_of}
use Rattle.rules.proofs.Unique.{Steady}
use Rattle.rules.proofs.Bounds.{Bounded}
use Rattle.rules.proofs.Passable.{is_passable}
use Rattle.notes.specs.Notes.{FIRST, NEXT, note_at}
use Rattle.scopes.specs.Rows.{Tree}
use Rattle.attributes.specs.Following.{Sought, row_of}
use Rattle.working.specs.Working.{Good, Spare, SameAttributes}

-- The pool has room for six bytes more for every attribute that is still to come: those of elements before row k are done, and of
-- row k those before row a.
pub record Roomy (total room k a : ℕ) (s : State) : Type 0 where
  pub base : List Node
  pub start : ℕ
  pub count : length base ≡ total
  pub fits : start + 6 * total ≤ room
  pub bounded : Bounded base start k a s

-- What holds of every state that normalization of an accepted table of so many rows passes through.
pub record Fit (total : ℕ) (s : State) : Type 0 where
  pub steady : Steady total s
  pub passable : all_of is_passable s.rows ≡ true
  pub tree : Tree s.rows

-- The attributes among the rows below total are linked in the notes.
pub record Following (total : ℕ) (notes : List ℕ) (ns : List Node) : Type 0 where
  pub firsts : (e : ℕ) → e < total → Sought (λ (j : ℕ). is_attribute_of e (node ns j)) total 0 (row_of (note_at notes e FIRST))
  pub nexts : (e j : ℕ) → e < total → j < total → is_attribute_of e (node ns j) ≡ true → Sought (λ (i : ℕ). is_attribute_of e (node ns i)) total (suc j) (row_of (note_at notes j NEXT))

-- The buffers when the elements before row k are done and the path stands at position q.
pub record Working (total : ℕ) (table pool notes tops path : List ℕ) (rows bytes names limit q k : ℕ) (s : State) : Type 0 where
  pub good : Good table pool notes tops path rows bytes names limit q s
  pub spare : Spare tops rows names limit
  pub pool_small : length pool < 65536
  pub fit : Fit total s
  pub following : Following total notes s.rows
  pub roomy : Roomy total (length pool) k 0 s

-- Row e is one of the elements, at which the path stands.
pub record AtRow (total : ℕ) (table pool notes tops path : List ℕ) (rows bytes names limit e : ℕ) : Type 0 where
  pub state : State
  pub working : Working total table pool notes tops path rows bytes names limit (e + 1) e state
  pub small : e < total
  pub kind : (node state.rows e).type ≡ ELEMENT

-- What is left in the buffers: more rows than are allowed, of which then no more is said; or the words of the rows and the bytes of
-- the pool.
pub record Finished (table pool : List ℕ) (limit rows bytes : ℕ) (made : State) : Type 0 where
  pub full : limit < rows → limit < length made.rows
  pub words : rows ≤ limit → take (WIDTH * rows) table ≡ words made.rows
  pub held : rows ≤ limit → take bytes pool ≡ made.pool
  pub table_room : rows ≤ limit → WIDTH * rows ≤ length table
  pub pool_room : rows ≤ limit → bytes ≤ length pool

-- The same with the path at position q.
pub record Done (before table pool notes tops path : List ℕ) (rows bytes names limit q : ℕ) (made : State) : Type 0 where
  pub full : limit < rows → limit < length made.rows
  pub good : rows ≤ limit → Good table pool notes tops path rows bytes names limit q made
  pub spare : rows ≤ limit → Spare tops rows names limit
  pub attributes : SameAttributes before notes
