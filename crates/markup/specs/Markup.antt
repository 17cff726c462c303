-- RULES 12.4, the markup of a tree.
use Rattle.std.specs.Prelude.{ℕ, cond, false, true, List, [], ◌∷◌, ◌++◌}
use Rattle.rules.specs.Lists.{gathered, is_empty}
use Rattle.escapes.specs.Escapes.{escaped}
use Rattle.markup.specs.Trees.{Content, nothing, text, element, Qualified}

-- A name: its prefix and a colon, if it has one, and its local name.
unfoldable pub name_markup : Qualified → List ℕ
name_markup n = cond (is_empty n.prefix) n.local (n.prefix ++ 58 ∷ n.local)

-- An attribute or declaration, after one space, its value in double quotes.
unfoldable pub attribute_markup : Qualified × List ℕ → List ℕ
attribute_markup a = 32 ∷ name_markup a.0 ++ 61 ∷ 34 ∷ escaped true a.1 ++ 34 ∷ []

unfoldable pub start_tag : Qualified → List (Qualified × List ℕ) → List ℕ
start_tag name attributes = 60 ∷ name_markup name ++ gathered attribute_markup attributes ++ 62 ∷ []

unfoldable pub end_tag : Qualified → List ℕ
end_tag name = 60 ∷ 47 ∷ name_markup name ++ 62 ∷ []

-- Children in order, always an end tag.
unfoldable pub markup : Content Qualified → List ℕ
markup nothing = []
markup (text value following) = escaped false value ++ markup following
markup (element name attributes content following) =
    start_tag name attributes ++ markup content ++ end_tag name ++ markup following
