-- RULES 12.5 and 12.6, writing XML text: refusals 20 to 24, and what the operation answers and leaves.
use Rattle.std.specs.Prelude.{ℕ, Bool, cond, ◌&&◌, not, List, [], ◌∷◌, length, eqb, ltb}
use Rattle.std.proofs.Math.Option.{Option, none, some}
use Rattle.rules.specs.Lists.{any_of, is_one_of, is_empty}
use Rattle.rules.specs.Table.{ELEMENT, ATTRIBUTE, TEXT, DOCUMENT, DECLARATION, Node, nodes, node, is_element}
use Rattle.rules.specs.Refusals.{refused_if, first_refusal, lowest_refusal, unless_refused}
use Rattle.rules.specs.Lookups.{elements_from, element_child, declares, scope_of, lookup_refusal}
use Rattle.rules.specs.Normalization.{level1_refusal}
use Rattle.rules.specs.Demands.{self_and_ancestors, means}
use Rattle.rules.specs.declared.Refusal.{Refusal}
use Rattle.rules.specs.declared.Row.{Row}
use Rattle.characters.specs.Characters.{holds_forbidden}
use Rattle.bundles.specs.Operations.{WriteOutcome, write_refused, write_done, over_bundle}
use Rattle.markup.specs.Trees.{written_tree}
use Rattle.markup.specs.Markup.{markup}

-- The element that is written: an element row itself, a document's element, or none.
unfoldable pub element_to_write : List Node → ℕ → Option ℕ
element_to_write ns r =
    cond (is_element (node ns r).type) (some r) (cond (eqb (node ns r).type DOCUMENT) (element_child ns r) none)

-- Row r is in the subtree of element e: it is e, or e is one of its ancestors.
unfoldable pub in_subtree : List Node → ℕ → ℕ → Bool
in_subtree ns e r = is_one_of (self_and_ancestors ns r) e

-- The refusal of the lowest row that meets a test.
abbrev pub lowest_row : List Node → (ℕ → Bool) → (Row → Refusal) → Option Refusal
lowest_row ns test refusal = lowest_refusal (λ (r : ℕ). refused_if (test r) (refusal (record { 0 = r }))) (length ns)

-- 20: a type other than 1, 2, 3, 13.
unfoldable pub has_no_markup : List Node → ℕ → Bool
has_no_markup ns r = not (is_one_of (ELEMENT ∷ ATTRIBUTE ∷ TEXT ∷ DECLARATION ∷ []) (node ns r).type)

-- 23: a name whose prefix does not mean its URI in scope there.
unfoldable pub is_undeclared : List Node → ℕ → Bool
is_undeclared ns r = is_one_of (ELEMENT ∷ ATTRIBUTE ∷ []) (node ns r).type && not (means ns r)

-- The elements of a path that are nearer than e.
abbrev pub nearer : ℕ → List ℕ → List ℕ
nearer e [] = []
nearer e (x ∷ outward) = let rest = nearer e outward in cond (eqb x e) [] (x ∷ rest)

-- 24: a declaration with a value that an ancestor of element e owns, and whose prefix neither e nor any element between declares.
unfoldable pub is_inherited : List Node → ℕ → ℕ → Bool
is_inherited ns e r =
    let owner = (node ns r).parent in
    eqb (node ns r).type DECLARATION && not (is_empty (node ns r).value.bytes)
    && not (eqb owner e) && is_one_of (elements_from ns e) owner
    && not (any_of (declares (node ns r).local.bytes) (scope_of ns (nearer owner (elements_from ns e))))

-- What the subtree of the element at hand is refused for: 20, 21 (a value that holds a forbidden character), 23 and 24, each at its lowest row. Without an element, 20 at
-- the row that was named.
unfoldable pub subtree_refusal : List Node → ℕ → Option ℕ → Option Refusal
subtree_refusal ns start none = some (Refusal.NotMarkup (record { 0 = start }))
subtree_refusal ns start (some e) =
    first_refusal
    (lowest_row ns (λ (r : ℕ). in_subtree ns e r && has_no_markup ns r) Refusal.NotMarkup
    ∷ lowest_row ns (λ (r : ℕ). in_subtree ns e r && holds_forbidden (node ns r).value.bytes) Refusal.Character
    ∷ lowest_row ns (λ (r : ℕ). in_subtree ns e r && is_undeclared ns r) Refusal.Undeclared
    ∷ lowest_row ns (is_inherited ns e) Refusal.Inherited
    ∷ [])

-- The text of the element at hand.
unfoldable pub text_of : List Node → Option ℕ → List ℕ
text_of ns none = []
text_of ns (some e) = markup (written_tree ns e)

abbrev pub table_text : List ℕ → List ℕ → ℕ → List ℕ
table_text table pool start = text_of (nodes table pool) (element_to_write (nodes table pool) start)

-- What writing from row `start` into so many bytes is refused for: the check's, 8, 9, 20, 21, 23, 24, and 22, too little room.
unfoldable pub text_refusal : List ℕ → List ℕ → ℕ → ℕ → Option Refusal
text_refusal table pool start size =
    first_refusal
    (lookup_refusal table pool start
    ∷ level1_refusal (nodes table pool)
    ∷ subtree_refusal (nodes table pool) start (element_to_write (nodes table pool) start)
    ∷ refused_if (ltb size (length (table_text table pool start))) Refusal.TextRoom
    ∷ [])

-- Writing from row `start` into so many bytes: the text, the rest zero; a refusal leaves all zero.
unfoldable pub text_written : List ℕ → List ℕ → ℕ → ℕ → WriteOutcome
text_written table pool start size =
    unless_refused (text_refusal table pool start size) (write_refused size) (write_done size (table_text table pool start))

-- The same over bundle bytes: 30 to 32 come first.
unfoldable pub bundle_text : List ℕ → ℕ → ℕ → WriteOutcome
bundle_text bytes start size = over_bundle bytes (write_refused size) (λ table pool. text_written table pool start size)
