-- What the functions answer, from what they read.
-- Assumes nothing.
use Prim.Native.Nat.{ℕ}
use mathlib.Core.Path.{◌≡◌, refl, ap}
use mathlib.Core.Bool.{Bool, true, false, ◌&&◌, not}
use mathlib.Core.List.{List}
use lib.Dec.{eqb}
use Rattle.rules.specs.Table.{NONE, TYPE, PARENT, ELEMENT, ATTRIBUTE, word}
use Rattle.notes.specs.Notes.{URI, note_at}
use Rattle.bindings.specs.Asking.{element_settled, attribute_settled}
use Rattle.proposal_names.specs.Tests.{is_unsettled, asks_scope}

-- What is read of a row.
module _ (table notes tops path : List ℕ) (r : ℕ) {kind : ℕ} (read : kind ≡ word table r TYPE) where
  pub of-element : eqb kind ELEMENT ≡ true → {is : Bool} → is ≡ element_settled notes tops path r → not is ≡ is_unsettled table notes tops path r
  of-element t e = rw (← read, t) (ap not e)

  module _ (t : eqb kind ELEMENT ≡ false) {owner : ℕ} (owned : owner ≡ word table r PARENT) where
    pub of-attribute : (eqb kind ATTRIBUTE && not (eqb owner NONE)) ≡ true → {is : Bool} → is ≡ attribute_settled notes tops path r → not is ≡ is_unsettled table notes tops path r
    of-attribute u e = rw (← read, ← owned, t, u) (ap not e)

    pub of_other : (eqb kind ATTRIBUTE && not (eqb owner NONE)) ≡ false → false ≡ is_unsettled table notes tops path r
    of_other u = rw (← read, ← owned, t, u) refl

-- Whether it asks for what is in scope.
module _ (table notes : List ℕ) (r : ℕ) {kind : ℕ} (read : kind ≡ word table r TYPE) where
  pub asks-element : eqb kind ELEMENT ≡ true → true ≡ asks_scope table notes r
  asks-element t = rw (← read, t) refl

  module _ (t : eqb kind ELEMENT ≡ false) {owner : ℕ} (owned : owner ≡ word table r PARENT) where
    pub asks-attribute : (eqb kind ATTRIBUTE && not (eqb owner NONE)) ≡ true → {u : ℕ} → u ≡ note_at notes r URI → not (eqb u 0) ≡ asks_scope table notes r
    asks-attribute u uri = rw (← read, ← owned, t, u, uri) refl

    pub asks_nothing : (eqb kind ATTRIBUTE && not (eqb owner NONE)) ≡ false → false ≡ asks_scope table notes r
    asks_nothing u = rw (← read, ← owned, t, u) refl
