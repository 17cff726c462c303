-- Tests of one row, by the numbers of names and where the arrays stand.
use Rattle.std.specs.Prelude.{ℕ, ◌+◌, Bool, cond, ◌&&◌, ◌||◌, not, List, eqb}
use Rattle.rules.specs.Table.{TYPE, ELEMENT, ATTRIBUTE, DOCUMENT, word}
use Rattle.scopes.specs.Rows.{up}
use Rattle.bindings.specs.Asking.{element_settled, attribute_settled}
use Rattle.flags.specs.Named.{is_named}
use Rattle.near_rows.specs.Outward.{is_leaf}

-- Row r is a leaf or a document, or its name is settled where the arrays stand.
abbrev pub is_writable : List ℕ → List ℕ → List ℕ → List ℕ → ℕ → Bool
is_writable table notes tops path r =
    cond (eqb (word table r TYPE) ELEMENT) (element_settled notes tops path r)
    (cond (eqb (word table r TYPE) ATTRIBUTE) (attribute_settled notes tops path r) (is_leaf (word table r TYPE) || eqb (word table r TYPE) DOCUMENT))

-- The position in whose scope the name of row r stands.
abbrev pub place_of : List ℕ → ℕ → ℕ
place_of table r = cond (eqb (word table r TYPE) ELEMENT) (r + 1) (up table (r + 1))

-- A row that is flagged and has a name that is not settled where the arrays stand.
abbrev pub is_unsettled : List ℕ → List ℕ → List ℕ → List ℕ → List ℕ → ℕ → Bool
is_unsettled table notes tops path flags r =
    is_named table flags r
    && cond (eqb (word table r TYPE) ELEMENT) (not (element_settled notes tops path r)) (not (attribute_settled notes tops path r))
