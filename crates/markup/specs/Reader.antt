-- RULES 12.7, a reader of XML text, by XML 1.0 (fifth edition), whose productions and constraints are named, and by Namespaces
-- in XML 1.0 for names. It takes a part of the language: elements with start and end tags, attributes in double quotes, text
-- and references. What it takes it reads as they say. In names it takes every byte from 128, as the check does.
use Rattle.std.specs.Prelude.{ℕ, zero, suc, Bool, true, false, cond, ◌&&◌, ◌||◌, not, List, [], ◌∷◌, length, eqb}
use Rattle.std.proofs.Math.Option.{Option, none, some}
use Rattle.rules.specs.Lists.{all_of, is_one_of, is_empty, same_bytes}
use Rattle.rules.specs.Refusals.{is_between, is_name_byte, good_name}
use Rattle.rules.specs.Utf8.{well_formed, decoded}
use Rattle.escapes.specs.Undoing.{lines, read_value, starts_with}
use Rattle.markup.specs.Trees.{Content, nothing, text, element, Qualified}

-- What a production finds at the start of the bytes, and the bytes behind it; none: it finds nothing that it takes.
abbrev pub Found : Type 0 → Type 0
Found A = Option (A × List ℕ)

abbrev pub and_then : {A B : Type 0} → Option A → (A → Option B) → Option B
and_then none next = none
and_then (some x) next = next x

-- The bytes behind a byte that must stand first.
abbrev pub past : ℕ → List ℕ → Option (List ℕ)
past b [] = none
past b (x ∷ xs) = cond (eqb x b) (some xs) none

-- The bytes at the start that pass a test, and the others.
abbrev pub front : (ℕ → Bool) → List ℕ → List ℕ
front test [] = []
front test (b ∷ bs) = let rest = front test bs in cond (test b) (b ∷ rest) []

abbrev pub behind : (ℕ → Bool) → List ℕ → List ℕ
behind test [] = []
behind test (b ∷ bs) = let rest = behind test bs in cond (test b) rest (b ∷ bs)

-- Namespaces, 4, NCName.
unfoldable pub nc_name : List ℕ → Found (List ℕ)
nc_name bytes =
    let name = front (is_name_byte false) bytes in
    cond (not (is_empty name) && good_name false name) (some (name, behind (is_name_byte false) bytes)) none

abbrev pub q_name_behind : List ℕ × List ℕ → Option (List ℕ) → Found Qualified
q_name_behind first none = some (record { prefix = []; local = first.0 }, first.1)
q_name_behind first (some rest) =
    and_then (nc_name rest) (λ (second : List ℕ × List ℕ). some (record { prefix = first.0; local = second.0 }, second.1))

-- Namespaces, 7 to 9, QName: a local part, or a prefix, a colon and a local part.
unfoldable pub q_name : List ℕ → Found Qualified
q_name bytes = and_then (nc_name bytes) (λ (first : List ℕ × List ℕ). q_name_behind first (past 58 first.1))

-- 2, Char.
abbrev pub is_char : ℕ → Bool
is_char c = is_one_of (0x9 ∷ 0xA ∷ 0xD ∷ []) c || is_between 0x20 0xD7FF c || is_between 0xE000 0xFFFD c || is_between 0x10000 0x10FFFF c

-- A value, of which every character is one: a bare one by 2, a referenced one by the constraint Legal Character.
unfoldable pub is_legal : List ℕ → Bool
is_legal value = well_formed value && all_of is_char (decoded value)

unfoldable pub value_of : Bool → List ℕ → Option (List ℕ)
value_of quoted bytes = and_then (read_value quoted bytes) (λ (value : List ℕ). cond (is_legal value) (some value) none)

abbrev pub not_quote : ℕ → Bool
not_quote b = not (eqb b 34)

abbrev pub not_less : ℕ → Bool
not_less b = not (eqb b 60)

-- 10, AttValue, in double quotes.
unfoldable pub att_value : List ℕ → Found (List ℕ)
att_value bytes =
    and_then (past 34 bytes) (λ (rest : List ℕ).
    and_then (value_of true (front not_quote rest)) (λ (value : List ℕ).
    and_then (past 34 (behind not_quote rest)) (λ (after : List ℕ). some (value, after))))

-- 41, Attribute, with 25, Eq, without space.
unfoldable pub attribute : List ℕ → Found (Qualified × List ℕ)
attribute bytes =
    and_then (q_name bytes) (λ (name : Qualified × List ℕ).
    and_then (past 61 name.1) (λ (rest : List ℕ).
    and_then (att_value rest) (λ (value : List ℕ × List ℕ). some ((name.0, value.0), value.1))))

-- Attributes, each after one space. As many steps as there are bytes are enough.
abbrev pub attributes_behind : (List ℕ → Found (List (Qualified × List ℕ))) → List ℕ → Option (List ℕ) → Found (List (Qualified × List ℕ))
attributes_behind more bytes none = some ([], bytes)
attributes_behind more bytes (some rest) =
    and_then (attribute rest) (λ (first : (Qualified × List ℕ) × List ℕ).
    and_then (more first.1) (λ (others : List (Qualified × List ℕ) × List ℕ). some (first.0 ∷ others.0, others.1)))

unfoldable pub attributes : ℕ → List ℕ → Found (List (Qualified × List ℕ))
attributes zero bytes = none
attributes (suc steps) bytes = attributes_behind (attributes steps) bytes (past 32 bytes)

-- 40, STag.
unfoldable pub s_tag : List ℕ → Found (Qualified × List (Qualified × List ℕ))
s_tag bytes =
    and_then (past 60 bytes) (λ (rest : List ℕ).
    and_then (q_name rest) (λ (name : Qualified × List ℕ).
    and_then (attributes (suc (length name.1)) name.1) (λ (found : List (Qualified × List ℕ) × List ℕ).
    and_then (past 62 found.1) (λ (after : List ℕ). some ((name.0, found.0), after)))))

-- 42, ETag, of the name of its start tag: the constraint Element Type Match.
unfoldable pub e_tag : Qualified → List ℕ → Option (List ℕ)
e_tag name bytes =
    and_then (past 60 bytes) (λ (slash : List ℕ).
    and_then (past 47 slash) (λ (rest : List ℕ).
    and_then (q_name rest) (λ (found : Qualified × List ℕ).
    and_then (past 62 found.1) (λ (after : List ℕ).
    cond (same_bytes found.0.prefix name.prefix && same_bytes found.0.local name.local) (some after) none))))

-- 39, element: it is given what reads content, and gives what to put before what follows it.
unfoldable pub element_by : (List ℕ → Found (Content Qualified)) → List ℕ → Found (Content Qualified → Content Qualified)
element_by content bytes =
    and_then (s_tag bytes) (λ (tag : (Qualified × List (Qualified × List ℕ)) × List ℕ).
    and_then (content tag.1) (λ (inside : Content Qualified × List ℕ).
    and_then (e_tag tag.0.0 inside.1) (λ (after : List ℕ). some (element tag.0.0 tag.0.1 inside.0, after))))

-- A text that is not empty.
abbrev pub with_text : {N : Type 0} → List ℕ → Content N → Content N
with_text [] following = following
with_text (b ∷ bs) following = text (b ∷ bs) following

-- 43, content: text, and elements with text behind each, up to an end tag or the end. As many steps as there are bytes are enough.
unfoldable pub content : ℕ → List ℕ → Found (Content Qualified)
content zero bytes = none
content (suc steps) bytes =
    and_then (value_of false (front not_less bytes)) (λ (value : List ℕ).
    cond (is_empty (behind not_less bytes) || starts_with (60 ∷ 47 ∷ []) (behind not_less bytes))
    (some (with_text value nothing, behind not_less bytes))
    (and_then (element_by (content steps) (behind not_less bytes)) (λ (first : (Content Qualified → Content Qualified) × List ℕ).
    and_then (content steps first.1) (λ (following : Content Qualified × List ℕ).
    some (with_text value (first.0 following.0), following.1)))))

-- The element that the bytes are, and nothing behind it.
unfoldable pub read_markup : List ℕ → Option (Content Qualified)
read_markup bytes =
    and_then (element_by (content (suc (length bytes))) (lines bytes)) (λ (found : (Content Qualified → Content Qualified) × List ℕ).
    cond (is_empty found.1) (some (found.0 nothing)) none)
