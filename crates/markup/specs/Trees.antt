-- RULES 12.3, the tree of an element: what the table has of it, row by row.
use Rattle.std.specs.Prelude.{ℕ, zero, suc, Bool, cond, ◌&&◌, List, [], ◌∷◌, map, length, eqb}
use Rattle.rules.specs.Lists.{filtered, numbers_from, is_one_of, is_empty}
use Rattle.rules.specs.Table.{ELEMENT, ATTRIBUTE, TEXT, DECLARATION, xmlns_prefix, Node, node}

-- The content of an element: texts and elements in order. An element has a name, attributes with their values, its own content,
-- and what follows it. The names are of one kind or another.
pub data Content (N : Type 0) : Type 0 where
  nothing : Content N
  text : List ℕ → Content N → Content N
  element : N → List (N × List ℕ) → Content N → Content N → Content N

-- A name as it is written, and a name as it is meant.
pub record Qualified : Type 0 where
  pub prefix : List ℕ
  pub local : List ℕ

pub record Expanded : Type 0 where
  pub uri : List ℕ
  pub local : List ℕ

-- The elements and texts of element e, in row order.
unfoldable pub child_rows : List Node → ℕ → List ℕ
child_rows ns e =
    filtered (λ (r : ℕ). is_one_of (ELEMENT ∷ TEXT ∷ []) (node ns r).type && eqb (node ns r).parent e) (numbers_from 0 (length ns))

module _ {N : Type 0} (name : Node → N) (attributes : List Node → ℕ → List (N × List ℕ)) where
  abbrev pub items_of : (ℕ → Content N) → List Node → List ℕ → Content N
  items_of inside ns [] = nothing
  items_of inside ns (r ∷ rows) =
      let following = items_of inside ns rows in
      cond (eqb (node ns r).type ELEMENT)
      (element (name (node ns r)) (attributes ns r) (inside r) following)
      (text (node ns r).value.bytes following)

  -- The content of element e. A parent is always less than its row, so as many steps as there are rows are enough.
  abbrev pub content_of : ℕ → List Node → ℕ → Content N
  content_of zero ns e = nothing
  content_of (suc steps) ns e = items_of (content_of steps ns) ns (child_rows ns e)

  -- Element e with all that it holds.
  abbrev pub tree_of : List Node → ℕ → Content N
  tree_of ns e = element (name (node ns e)) (attributes ns e) (content_of (length ns) ns e) nothing

-- As it is written: attributes and declarations in row order. A declaration is the attribute xmlns, or xmlns: and its prefix.
abbrev pub qualified_name : Node → Qualified
qualified_name n = record { prefix = n.prefix.bytes; local = n.local.bytes }

abbrev pub declaration_name : List ℕ → Qualified
declaration_name prefix =
    cond (is_empty prefix) (record { prefix = []; local = xmlns_prefix }) (record { prefix = xmlns_prefix; local = prefix })

unfoldable pub attribute_name : Node → Qualified
attribute_name n = cond (eqb n.type DECLARATION) (declaration_name n.local.bytes) (qualified_name n)

abbrev pub is_owned : ℕ → Node → Bool
is_owned e n = is_one_of (ATTRIBUTE ∷ DECLARATION ∷ []) n.type && eqb n.parent e

abbrev pub written_attribute : Node → Qualified × List ℕ
written_attribute n = (attribute_name n, n.value.bytes)

unfoldable pub written_attributes : List Node → ℕ → List (Qualified × List ℕ)
written_attributes ns e = map written_attribute (filtered (is_owned e) ns)

unfoldable pub written_tree : List Node → ℕ → Content Qualified
written_tree ns e = tree_of qualified_name written_attributes ns e

-- As it is meant: URIs and local names, without the declarations.
abbrev pub expanded_name : Node → Expanded
expanded_name n = record { uri = n.uri.bytes; local = n.local.bytes }

abbrev pub is_attribute : ℕ → Node → Bool
is_attribute e n = eqb n.type ATTRIBUTE && eqb n.parent e

abbrev pub meant_attribute : Node → Expanded × List ℕ
meant_attribute n = (expanded_name n, n.value.bytes)

unfoldable pub meant_attributes : List Node → ℕ → List (Expanded × List ℕ)
meant_attributes ns e = map meant_attribute (filtered (is_attribute e) ns)

unfoldable pub meant_tree : List Node → ℕ → Content Expanded
meant_tree ns e = tree_of expanded_name meant_attributes ns e
