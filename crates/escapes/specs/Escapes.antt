-- RULES 12.1, escaping. A value is a text, or it stands in quotes: the value of an attribute or of a declaration.
use Rattle.std.specs.Prelude.{ℕ, Bool, cond, List, [], ◌∷◌, eqb}
use Rattle.std.proofs.Math.Option.{Option, none, some}
use Rattle.rules.specs.Lists.{first_that, any_of, gathered, ascii}

-- What is escaped, and as what: in all values & < > " and carriage return; in quotes tab and line feed too.
unfoldable pub escapes : Bool → List (ℕ × List ℕ)
escapes quoted =
    (38, ascii "&amp;") ∷ (60, ascii "&lt;") ∷ (62, ascii "&gt;") ∷ (34, ascii "&quot;") ∷ (13, ascii "&#13;")
    ∷ cond quoted ((9, ascii "&#9;") ∷ (10, ascii "&#10;") ∷ []) []

-- The escape is that of this byte.
abbrev pub is_of : ℕ → ℕ × List ℕ → Bool
is_of b e = eqb b e.0

unfoldable pub is_escaped : Bool → ℕ → Bool
is_escaped quoted b = any_of (is_of b) (escapes quoted)

abbrev pub or_itself : ℕ → Option (ℕ × List ℕ) → List ℕ
or_itself b none = b ∷ []
or_itself b (some e) = e.1

-- What a byte of a value is written as.
unfoldable pub escape : Bool → ℕ → List ℕ
escape quoted b = or_itself b (first_that (is_of b) (escapes quoted))

-- What a value is written as.
unfoldable pub escaped : Bool → List ℕ → List ℕ
escaped quoted value = gathered (escape quoted) value
