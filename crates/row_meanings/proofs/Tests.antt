-- What the tests answer, from what they read.
-- Assumes nothing.
use Prim.Native.Nat.{ℕ, ◌+◌, ◌≤◌, ◌<◌}
use mathlib.Core.Path.{◌≡◌, refl, sym, ap, ◌∙◌}
use mathlib.Core.Bool.{Bool, true, false, ◌||◌, not}
use mathlib.Core.List.{List}
use native.Mathlib.Omega.{arith}
use lib.Dec.{eqb}
use borrow.Author.Tests.{eq-eqb, ne_eqb}
use Rattle.rules.specs.Table.{TYPE, ELEMENT, ATTRIBUTE, DOCUMENT, word, row_count}
use Rattle.scopes.specs.Rows.{up}
use Rattle.scopes.proofs.Reading.{up-falls}
use Rattle.bindings.specs.Asking.{element_settled, attribute_settled}
use Rattle.flags.specs.Named.{is_named}
use Rattle.near_rows.specs.Outward.{is_leaf}
use Rattle.row_meanings.specs.Tests.{is_writable, place_of, is_unsettled}

module _ (table : List ℕ) (r : ℕ) {k : ℕ} (read : k ≡ word table r TYPE) where
  module _ {position : ℕ} (at : position ≡ r + 1) (within : r < row_count table) where
    pub place-own : k ≡ ELEMENT → (position ≡ place_of table r) × (position ≤ row_count table)
    place-own is = (at ∙ rw (sym read ∙ is) refl, omega arith)

    pub place-owner : {u : ℕ} → (k ≡ ELEMENT → ⊥) → u ≡ up table position → (u ≡ place_of table r) × (u ≤ row_count table)
    place-owner other above =
        let falls = up-falls table (r + 1) (omega arith) in
        let owner = above ∙ ap (up table) at in
        (owner ∙ rw (ne_eqb (word table r TYPE) ELEMENT (λ z. other (read ∙ z))) refl, omega arith)

  module _ (notes tops path flags : List ℕ) (named : is_named table flags r ≡ true) where
    pub unsettled-element : {b : Bool} → k ≡ ELEMENT → b ≡ element_settled notes tops path r → not b ≡ is_unsettled table notes tops path flags r
    unsettled-element is settled = rw (named, eq-eqb (word table r TYPE) ELEMENT (sym read ∙ is), settled) refl

    pub unsettled-attribute : {b : Bool} → (k ≡ ELEMENT → ⊥) → b ≡ attribute_settled notes tops path r → not b ≡ is_unsettled table notes tops path flags r
    unsettled-attribute other settled = rw (named, ne_eqb (word table r TYPE) ELEMENT (λ z. other (read ∙ z)), settled) refl

module _ (table : List ℕ) (r : ℕ) {k : ℕ} (read : k ≡ word table r TYPE) (notes tops path : List ℕ) where
  pub writable-element : {b : Bool} → k ≡ ELEMENT → b ≡ element_settled notes tops path r → b ≡ is_writable table notes tops path r
  writable-element is settled = rw (eq-eqb (word table r TYPE) ELEMENT (sym read ∙ is)) settled

  module _ (other : k ≡ ELEMENT → ⊥) where
    pub writable-attribute : {b : Bool} → k ≡ ATTRIBUTE → b ≡ attribute_settled notes tops path r → b ≡ is_writable table notes tops path r
    writable-attribute is settled = rw (ne_eqb (word table r TYPE) ELEMENT (λ z. other (read ∙ z)), eq-eqb (word table r TYPE) ATTRIBUTE (sym read ∙ is)) settled

    pub writable_other : {b : Bool} → (k ≡ ATTRIBUTE → ⊥) → b ≡ is_leaf k → (b || eqb k DOCUMENT) ≡ is_writable table notes tops path r
    writable_other another leaf = rw (ne_eqb (word table r TYPE) ELEMENT (λ z. other (read ∙ z)), ne_eqb (word table r TYPE) ATTRIBUTE (λ z. another (read ∙ z)), leaf, read) refl

pub unsettled-other : (table : List ℕ) (r : ℕ) (notes tops path flags : List ℕ) → is_named table flags r ≡ false → false ≡ is_unsettled table notes tops path flags r
unsettled-other table r notes tops path flags other = rw other refl
