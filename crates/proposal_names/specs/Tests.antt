-- The test of one row, by the numbers of names and where the arrays stand.
use Rattle.std.specs.Prelude.{ℕ, Bool, cond, true, false, ◌&&◌, not, List, eqb}
use Rattle.rules.specs.Table.{NONE, TYPE, PARENT, ELEMENT, ATTRIBUTE, word}
use Rattle.notes.specs.Notes.{URI, note_at}
use Rattle.bindings.specs.Asking.{element_settled, attribute_settled}

-- Row r is an element or an owned attribute, and its name is not settled.
abbrev pub is_unsettled : List ℕ → List ℕ → List ℕ → List ℕ → ℕ → Bool
is_unsettled table notes tops path r =
    cond (eqb (word table r TYPE) ELEMENT) (not (element_settled notes tops path r))
    (cond (eqb (word table r TYPE) ATTRIBUTE && not (eqb (word table r PARENT) NONE)) (not (attribute_settled notes tops path r)) false)

-- Row r is an element, or an owned attribute with a URI.
abbrev pub asks_scope : List ℕ → List ℕ → ℕ → Bool
asks_scope table notes r =
    cond (eqb (word table r TYPE) ELEMENT) true
    (cond (eqb (word table r TYPE) ATTRIBUTE && not (eqb (word table r PARENT) NONE)) (not (eqb (note_at notes r URI) 0)) false)
