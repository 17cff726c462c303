-- RULES 12.8, names as they are meant, by Namespaces in XML 1.0 (third edition), whose constraints are named: the reader's second
-- part.
use Rattle.std.specs.Prelude.{ℕ, Bool, true, cond, ◌&&◌, ◌||◌, not, List, [], ◌∷◌, ◌++◌, length}
use Rattle.std.proofs.Math.Option.{Option, none, some}
use Rattle.rules.specs.Lists.{first_that, any_of, all_of, gathered, is_empty, same_bytes}
use Rattle.rules.specs.Table.{xml_uri, xml_prefix, xmlns_prefix, Field}
use Rattle.rules.specs.Refusals.{bad_declaration}
use Rattle.rules.specs.Normalization.{new_declaration}
use Rattle.markup.specs.Trees.{Content, nothing, text, element, Qualified, Expanded}
use Rattle.markup.specs.Reader.{and_then, read_markup}

-- A declaration: a prefix, empty for the default namespace, and a URI.
abbrev pub Binding : Type 0
Binding = List ℕ × List ℕ

-- 3, declaring namespaces: the attribute xmlns is the default's, xmlns: with a name behind it that prefix's.
abbrev pub is_default_declaration : Qualified → Bool
is_default_declaration name = is_empty name.prefix && same_bytes name.local xmlns_prefix

abbrev pub is_declaration : Qualified × List ℕ → Bool
is_declaration a = is_default_declaration a.0 || same_bytes a.0.prefix xmlns_prefix

abbrev pub binding_of : Qualified × List ℕ → Binding
binding_of a = (cond (is_default_declaration a.0) [] a.0.local, a.1)

unfoldable pub bindings_of : List (Qualified × List ℕ) → List Binding
bindings_of attributes = gathered (λ (a : Qualified × List ℕ). cond (is_declaration a) (binding_of a ∷ []) []) attributes

-- Constraints Reserved Prefixes and Namespace Names, and No Prefix Undeclaring: as in refusal 6.
abbrev pub bytes_field : List ℕ → Field
bytes_field bytes = record { offset = 0; size = length bytes; bytes = bytes }

abbrev pub is_legal_binding : Binding → Bool
is_legal_binding b = not (bad_declaration (new_declaration 0 0 (bytes_field b.0) (bytes_field b.1)))

-- No element of a list is the same as an earlier one.
abbrev pub all_different : {A : Type 0} → (A → A → Bool) → List A → Bool
all_different same [] = true
all_different same (x ∷ xs) = not (any_of (same x) xs) && all_different same xs

abbrev pub same_prefix : Binding → Binding → Bool
same_prefix a b = same_bytes a.0 b.0

abbrev pub same_expanded : Expanded × List ℕ → Expanded × List ℕ → Bool
same_expanded a b = same_bytes a.0.uri b.0.uri && same_bytes a.0.local b.0.local

abbrev pub uri_of : Option Binding → List ℕ
uri_of none = []
uri_of (some b) = b.1

-- 3 and 6.1: the prefix xml is bound by definition, any other by the nearest declaration; none: no bytes.
unfoldable pub bound_to : List Binding → List ℕ → List ℕ
bound_to scope prefix =
    cond (same_bytes prefix xml_prefix) xml_uri (uri_of (first_that (λ (b : Binding). same_bytes b.0 prefix) scope))

-- Constraint Prefix Declared: a prefix, which is not xmlns, has a URI.
abbrev pub expanded_by : List Binding → Qualified → Option Expanded
expanded_by scope name =
    cond (same_bytes name.prefix xmlns_prefix || (not (is_empty name.prefix) && is_empty (bound_to scope name.prefix))) none
    (some (record { uri = bound_to scope name.prefix; local = name.local }))

-- 6.2: the default namespace does not apply to attributes.
abbrev pub attribute_expanded_by : List Binding → Qualified → Option Expanded
attribute_expanded_by scope name =
    cond (is_empty name.prefix) (some (record { uri = []; local = name.local })) (expanded_by scope name)

unfoldable pub attributes_expanded_by : List Binding → List (Qualified × List ℕ) → Option (List (Expanded × List ℕ))
attributes_expanded_by scope [] = some []
attributes_expanded_by scope (a ∷ attributes) =
    let others = attributes_expanded_by scope attributes in
    cond (is_declaration a) others
    (and_then (attribute_expanded_by scope a.0) (λ (name : Expanded). and_then others (λ (found : List (Expanded × List ℕ)). some ((name, a.1) ∷ found))))

-- 6.1: a declaration is in scope in its element, name, attributes and content. With the constraint Attributes Unique; no
-- attribute, declarations included, stands twice.
unfoldable pub meant_by : List Binding → Content Qualified → Option (Content Expanded)
meant_by scope nothing = some nothing
meant_by scope (text value following) =
    and_then (meant_by scope following) (λ (later : Content Expanded). some (text value later))
meant_by scope (element name attributes content following) =
    let bindings = bindings_of attributes in
    let inside = meant_by (bindings ++ scope) content in
    let later = meant_by scope following in
    cond (all_of is_legal_binding bindings && all_different same_prefix bindings)
    (and_then (expanded_by (bindings ++ scope) name) (λ (meant_name : Expanded).
    and_then (attributes_expanded_by (bindings ++ scope) attributes) (λ (found : List (Expanded × List ℕ)).
    cond (all_different same_expanded found)
    (and_then inside (λ (meant_inside : Content Expanded). and_then later (λ (meant_later : Content Expanded). some (element meant_name found meant_inside meant_later))))
    none)))
    none

-- What the bytes say to a reader who has nothing else: names as they are meant.
unfoldable pub read : List ℕ → Option (Content Expanded)
read bytes = and_then (read_markup bytes) (meant_by [])
