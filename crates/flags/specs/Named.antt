-- Rows that are flagged and have a name that means a URI.
use Rattle.std.specs.Prelude.{ℕ, Bool, ◌&&◌, ◌||◌, not, List, get_or, eqb}
use Rattle.rules.specs.Table.{NONE, TYPE, PARENT, ELEMENT, ATTRIBUTE, word}

-- A row that is flagged, and is an element or an owned attribute.
abbrev pub is_named : List ℕ → List ℕ → ℕ → Bool
is_named table flags r =
    eqb (get_or flags r 0) 1
    && (eqb (word table r TYPE) ELEMENT || (eqb (word table r TYPE) ATTRIBUTE && not (eqb (word table r PARENT) NONE)))
