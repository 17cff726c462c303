-- A table of which no row is refused: what one pass over its rows tells.
use Rattle.std.specs.Prelude.{ℕ, ◌<◌, ◌≡◌, true, false, List, [], ◌∷◌}
use Rattle.rules.specs.Lists.{is_one_of}
use Rattle.rules.specs.Table.{ELEMENT, ATTRIBUTE, TEXT, DOCUMENT, DECLARATION, Node, nodes, node, row_count, is_element}
use Rattle.meanings.specs.Names.{undeclared}

-- Row r draws neither 9 nor, in the subtree of an element, 20 or 23.
pub record Writable (ns : List Node) (r : ℕ) : Type 0 where
  pub kind : is_one_of (ELEMENT ∷ ATTRIBUTE ∷ TEXT ∷ DECLARATION ∷ DOCUMENT ∷ []) (node ns r).type ≡ true
  pub declared : (e : ℕ) → is_element (node ns e).type ≡ true → undeclared ns e r ≡ false

-- So are the rows before row r.
abbrev pub WritableTo : List ℕ → List ℕ → ℕ → Type 0
WritableTo table pool r = (q : ℕ) → q < r → q < row_count table → Writable (nodes table pool) q
