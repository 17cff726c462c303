-- Tests of one row for refusals 20 and 21.
use Rattle.std.specs.Prelude.{ℕ, Bool, ◌&&◌, not, List, [], ◌∷◌, eqb, get_or}
use Rattle.rules.specs.Lists.{is_one_of}
use Rattle.rules.specs.Table.{TYPE, VALUE, ELEMENT, ATTRIBUTE, TEXT, DECLARATION, word, field_at}
use Rattle.characters.specs.Characters.{forbidden_from}

-- A row that is flagged, of a type without markup; one whose value holds a forbidden character.
abbrev pub is_foreign : List ℕ → List ℕ → ℕ → Bool
is_foreign table flags r =
    eqb (get_or flags r 0) 1 && not (is_one_of (ELEMENT ∷ ATTRIBUTE ∷ TEXT ∷ DECLARATION ∷ []) (word table r TYPE))

abbrev pub is_spoiled : List ℕ → List ℕ → List ℕ → ℕ → Bool
is_spoiled table pool flags r = eqb (get_or flags r 0) 1 && forbidden_from (field_at table pool r VALUE).bytes
