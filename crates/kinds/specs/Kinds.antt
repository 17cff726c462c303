-- What a name is, as far as the rules ask.
use Rattle.std.specs.Prelude.{ℕ, Bool, true, false, cond, not, List, [], ◌∷◌}
use Rattle.rules.specs.Lists.{is_empty, same_bytes}
use Rattle.rules.specs.Table.{xml_prefix, xmlns_prefix, xml_uri, xmlns_uri}
use Rattle.rules.specs.Utf8.{well_formed}
use Rattle.rules.specs.Refusals.{good_name}

-- The kinds of names. Up to XMLNS they are good, up to GOOD_WITH_COLONS good with colons.
abbrev pub EMPTY : ℕ
EMPTY = 0

abbrev pub GOOD : ℕ
GOOD = 1

abbrev pub XML : ℕ
XML = 2

abbrev pub XMLNS : ℕ
XMLNS = 3

abbrev pub GOOD_WITH_COLONS : ℕ
GOOD_WITH_COLONS = 4

abbrev pub OTHER : ℕ
OTHER = 5

abbrev pub XML_URI : ℕ
XML_URI = 6

abbrev pub XMLNS_URI : ℕ
XMLNS_URI = 7

-- not well-formed UTF-8, whatever else the bytes are
abbrev pub MALFORMED : ℕ
MALFORMED = 8

-- the kind of the first test that is met
abbrev pub first_met : List (Bool × ℕ) → ℕ → ℕ
first_met [] otherwise = otherwise
first_met ((test, kind) ∷ later) otherwise = cond test kind (first_met later otherwise)

-- what is asked of a name that is neither good nor a prefix
abbrev pub uri_tests : List ℕ → List (Bool × ℕ)
uri_tests name = (same_bytes name xml_uri, XML_URI) ∷ (same_bytes name xmlns_uri, XMLNS_URI) ∷ []

abbrev pub kind_tests : List ℕ → List (Bool × ℕ)
kind_tests name =
    (is_empty name, EMPTY)
    ∷ (not (well_formed name), MALFORMED)
    ∷ (same_bytes name xml_prefix, XML)
    ∷ (same_bytes name xmlns_prefix, XMLNS)
    ∷ (good_name false name, GOOD)
    ∷ (good_name true name, GOOD_WITH_COLONS)
    ∷ uri_tests name

unfoldable pub kind_of : List ℕ → ℕ
kind_of name = first_met (kind_tests name) OTHER
