-- The working buffers: a table of which the first rows count, a pool of which the first bytes do, the notes of the rows, and the
-- arrays of the path of scopes; and what a step of normalization leaves in them.
use Rattle.std.specs.Prelude.{ℕ, ◌+◌, ◌-◌, ◌*◌, ◌≤◌, ◌<◌, true, false, List, [], ◌∷◌, ◌++◌, ◌≡◌, length, take, set}
use Rattle.rules.specs.Lists.{all_of, same_bytes}
use Rattle.rules.specs.Table.{WIDTH, MOST_ROWS, ELEMENT, DECLARATION, xml_prefix, xml_uri, Field, Node, nodes, node, words}
use Rattle.rules.specs.Lookups.{scope_at}
use Rattle.rules.specs.Normalization.{numbered_prefix, State, new_declaration, with_value, with_prefix, repair_element, is_attribute_of}
use Rattle.rules.proofs.Accepted.{NamespaceAccepted, Plain}
use Rattle.rules.proofs.Unique.{Unique}
use Rattle.rules.proofs.Result.{fits_in}
use Rattle.rules.proofs.Passable.{is_passable}
use Rattle.notes.specs.Notes.{NOTES, PREFIX, URI, FIRST, note_at}
use Rattle.numbers.specs.Numbers.{Names, Spelling, number_in}
use Rattle.numbers.specs.Noted.{NodeNumbered}
use Rattle.stacks.specs.Scopes.{serving, first}
use Rattle.scopes.specs.Rows.{scope_rows, Tree}
use Rattle.stacks.specs.Stacks.{TOPS, NUMBERED, PREFIXES, top_at, under_at, prefix_at, value_at}
use Rattle.scopes.specs.Standing.{Standing, Linked}
use Rattle.bindings.specs.Asking.{attribute_settled}
use Rattle.bindings.proofs.Free.{UsedBefore}

-- What the table and the pool mean.
abbrev pub meant : List ℕ → List ℕ → ℕ → ℕ → State
meant table pool rows bytes = record { rows = nodes (take (WIDTH * rows) table) (take bytes pool); pool = take bytes pool }

-- The table has room for the rows allowed.
pub record Room (table : List ℕ) (rows limit : ℕ) : Type 0 where
  pub row_room : rows ≤ limit
  pub limit_small : limit ≤ MOST_ROWS
  pub table_room : WIDTH * limit ≤ length table

-- And so have the other arrays, for these rows and numbers.
pub record Lent (table pool notes tops path : List ℕ) (rows bytes names limit : ℕ) : Type 0 where
  pub room : Room table rows limit
  pub bytes_room : bytes ≤ length pool
  pub noted : NOTES * limit ≤ length notes
  pub placed : 4 * limit + 4 ≤ length path
  pub topped : TOPS * names + TOPS ≤ length tops

-- There is room for the numbers to come: each row that is added brings one more at most.
pub record Spare (tops : List ℕ) (rows names limit : ℕ) : Type 0 where
  pub topped : TOPS * (names + (limit - rows)) + TOPS ≤ length tops
  pub few : names + (limit - rows) ≤ 4 * MOST_ROWS

-- The notes have the numbers of the rows' names, and the path those of the NS prefixes, and of xml at record 0.
pub record Numbers (ns : List Node) (notes path : List ℕ) (names limit : ℕ) : Type 0 where
  pub spelling : ℕ → List ℕ
  pub spelled : Spelling spelling names
  pub rows : (r : ℕ) → r < length ns → NodeNumbered notes spelling names r (node ns r)
  pub xml : Names spelling names (under_at path NUMBERED 0) xml_prefix
  pub numbered : (k : ℕ) → 1 ≤ k → k ≤ limit → under_at path NUMBERED k ≡ number_in spelling names (numbered_prefix k)

-- The buffers hold the state, and the path stands at position q.
pub record Good (table pool notes tops path : List ℕ) (rows bytes names limit q : ℕ) (s : State) : Type 0 where
  pub lent : Lent table pool notes tops path rows bytes names limit
  pub words : take (WIDTH * rows) table ≡ words s.rows
  pub held : take bytes pool ≡ s.pool
  pub numbers : Numbers s.rows notes path names limit
  pub linked : Linked (take (WIDTH * rows) table) notes rows
  pub standing : Standing (take (WIDTH * rows) table) notes tops path q

-- What holds of the rows of every state that normalization of an accepted table passes through.
pub record Lawful (s : State) : Type 0 where
  pub fit : all_of (fits_in s.pool) s.rows ≡ true
  pub unique : Unique s.rows
  pub passable : all_of is_passable s.rows ≡ true
  pub tree : Tree s.rows

-- Row e is an element of it.
pub record Element (s : State) (e : ℕ) : Type 0 where
  pub lawful : Lawful s
  pub within : e < length s.rows
  pub kind : (node s.rows e).type ≡ ELEMENT
  pub named : NamespaceAccepted (node s.rows e)
  pub plain : Plain (node s.rows e)

-- Row a is an attribute of its element e, and NS prefixes before this number are in use there.
pub record Attribute (s : State) (e a free : ℕ) : Type 0 where
  pub element : Element s e
  pub inside : a < length s.rows
  pub owned : is_attribute_of e (node s.rows a) ≡ true
  pub one : 1 ≤ free
  pub used : UsedBefore (scope_at s.rows e) free

-- The words of the notes that link attributes are the same.
abbrev pub SameAttributes : List ℕ → List ℕ → Type 0
SameAttributes notes notes' = (r k : ℕ) → FIRST ≤ k → k < NOTES → note_at notes' r k ≡ note_at notes r k

-- What a step leaves that makes this state: buffers that hold it; or it counts more rows than are allowed, and says no more.
pub record After (before table pool notes tops path : List ℕ) (rows bytes names limit q : ℕ) (made : State) : Type 0 where
  pub full : limit < rows → limit < length made.rows
  pub good : rows ≤ limit → Good table pool notes tops path rows bytes names limit q made
  pub spare : rows ≤ limit → Spare tops rows names limit
  pub attributes : SameAttributes before notes

-- An element at which the path stands.
pub record AtElement (table pool notes tops path : List ℕ) (rows bytes names limit e : ℕ) : Type 0 where
  pub state : State
  pub good : Good table pool notes tops path rows bytes names limit (e + 1) state
  pub spare : Spare tops rows names limit
  pub element : Element state e

-- An attribute of such an element.
pub record AtAttribute (table pool notes tops path : List ℕ) (rows bytes names limit free a : ℕ) : Type 0 where
  pub state : State
  pub owner : ℕ
  pub good : Good table pool notes tops path rows bytes names limit (owner + 1) state
  pub spare : Spare tops rows names limit
  pub attribute : Attribute state owner a free

-- Row d is the element's own declaration of its prefix.
pub record AtOwn (table notes tops path : List ℕ) (rows e d : ℕ) : Type 0 where
  pub pool : List ℕ
  pub bytes : ℕ
  pub names : ℕ
  pub limit : ℕ
  pub at : AtElement table pool notes tops path rows bytes names limit e
  pub within : d < rows
  pub kind : (node at.state.rows d).type ≡ DECLARATION
  pub owner : (node at.state.rows d).parent ≡ e

-- An element that has none.
pub record Undeclared (table notes tops path : List ℕ) (rows names limit e : ℕ) : Type 0 where
  pub pool : List ℕ
  pub bytes : ℕ
  pub at : AtElement table pool notes tops path rows bytes names limit e

-- Steps 1 and 2 of element e.
abbrev pub element_step : ℕ → State → State
element_step e s = record { rows = repair_element e s.rows; pool = s.pool }

-- Row d with another value; row a with another prefix, over a longer pool; and one declaration more.
abbrev pub valued : ℕ → Field → State → State
valued d value s = record { rows = set s.rows d (with_value value (node s.rows d)); pool = s.pool }

abbrev pub prefixed : ℕ → Field → List ℕ → State → State
prefixed a prefix bytes s = record { rows = set s.rows a (with_prefix prefix (node s.rows a)); pool = s.pool ++ bytes }

abbrev pub declared_for : ℕ → ℕ → State → State
declared_for e r s = record { rows = s.rows ++ new_declaration e (node s.rows r).maker (node s.rows r).prefix (node s.rows r).uri ∷ []; pool = s.pool }

-- An attribute whose declaration is to be written: its prefix has no declaration in scope at its owner, and its URI no serving one.
pub record AtTop (table notes tops path : List ℕ) (rows a : ℕ) : Type 0 where
  pub pool : List ℕ
  pub bytes : ℕ
  pub names : ℕ
  pub limit : ℕ
  pub state : State
  pub owner : ℕ
  pub good : Good table pool notes tops path rows bytes names limit (owner + 1) state
  pub more : rows < limit
  pub below : a < rows
  pub parent : (node state.rows a).parent ≡ owner
  pub earlier : owner < rows
  pub new : top_at tops PREFIXES (note_at notes a PREFIX) ≡ 0
  pub needed : serving (prefix_at notes) (value_at notes) (scope_rows (take (WIDTH * rows) table) (owner + 1)) (note_at notes a URI) ≡ []

-- An attribute with a URI that is not XML_URI and has no prefix in scope, with room in the pool.
pub record AtUnserved (table pool notes tops path : List ℕ) (rows bytes names limit free a : ℕ) : Type 0 where
  pub at : AtAttribute table pool notes tops path rows bytes names limit free a
  pub pool_room : (bytes + 6 ≤ length pool) × (length pool < 65536)
  pub unsettled : attribute_settled notes tops path a ≡ false
  pub not_xml : same_bytes (node at.state.rows a).uri.bytes xml_uri ≡ false
  pub unserved : first (serving (prefix_at notes) (value_at notes) (scope_rows (take (WIDTH * rows) table) (at.owner + 1)) (note_at notes a URI)) ≡ 0

-- The field at the end of the pool.
abbrev pub end_field : State → List ℕ → Field
end_field s bytes = record { offset = length s.pool; size = length bytes; bytes = bytes }

-- What step 3 of an attribute of element e leaves, and from which NS number the search goes on.
pub record AfterAttribute (before table pool notes tops path : List ℕ) (rows bytes names limit free e : ℕ) (made : State) : Type 0 where
  pub after : After before table pool notes tops path rows bytes names limit (e + 1) made
  pub one : 1 ≤ free
  pub used : UsedBefore (scope_at made.rows e) free
