-- A row that draws none of refusals 3, 12 and 13, told at once.
-- Assumes nothing.
use Prim.Native.Nat.{ℕ, ◌+◌, ◌≤◌}
use mathlib.Core.Path.{◌≡◌, refl, sym, ◌∙◌}
use mathlib.Core.Bool.{true, false, ◌&&◌, not, and-false}
use mathlib.Core.List.{List, [], ◌∷◌}
use mathlib.Core.Option.{Option, none}
use native.Mathlib.Omega.{arith}
use borrow.Author.Tests.{eqb-true, leb-true, eq-eqb, ne_eqb, le-ltb}
use lib.Dec.{eqb, leb, ltb}
use lib.ListN.{length}
use Rattle.rules.specs.Table.{TYPE, PREFIX, LOCAL_NAME, URI, VALUE, ELEMENT, ATTRIBUTE, TEXT, word, node_at}
use Rattle.rules.specs.Refusals.{first_refusal, must_be_empty, fields_refusal}
use Rattle.rules.specs.declared.Place.{Place}
use Rattle.rules.specs.declared.Refusal.{Refusal}
use Rattle.rules.proofs.Lists.{both_true}
use Rattle.rows.specs.Reading.{place_at}
use Rattle.single_fields.specs.Single.{place_refusal_at, length_refusal_at}
use Rattle.fields.specs.Passes.{is_nothing}
use Rattle.fields.proofs.Passes.{passes}

four-none : {a b c d : Option Refusal} → a ≡ none → b ≡ none → c ≡ none → d ≡ none → first_refusal (a ∷ b ∷ c ∷ d ∷ []) ≡ none
four-none a b c d = rw (a, b, c, d) refl

two_none : {a b : Option Refusal} → a ≡ none → b ≡ none → first_refusal (a ∷ b ∷ []) ≡ none
two_none a b = rw (a, b) refl

-- Which fields may have bytes.
attribute-free : (must_be_empty ATTRIBUTE PREFIX ≡ false) × (must_be_empty ATTRIBUTE LOCAL_NAME ≡ false) × (must_be_empty ATTRIBUTE URI ≡ false) × (must_be_empty ATTRIBUTE VALUE ≡ false)
unfolding must_be_empty
attribute-free = (refl, refl, refl, refl)

element-free : (must_be_empty ELEMENT PREFIX ≡ false) × (must_be_empty ELEMENT LOCAL_NAME ≡ false) × (must_be_empty ELEMENT URI ≡ false)
unfolding must_be_empty
element-free = (refl, refl, refl)

text-free : must_be_empty TEXT VALUE ≡ false
unfolding must_be_empty
text-free = refl

module _ (table pool : List ℕ) (r : ℕ) where
  -- One field.
  module _ (k : ℕ) where
    place_none : ltb (length pool) (word table r k + word table r (k + 1)) ≡ false → (eqb (word table r (k + 1)) 0 && not (eqb (word table r k) 0)) ≡ false → place_refusal_at table pool r k ≡ none
    place_none a b = rw (a, b) refl

    pub nothing-place : is_nothing table r k ≡ true → place_refusal_at table pool r k ≡ none
    nothing-place e =
        let b = both_true (eqb (word table r k) 0) (eqb (word table r (k + 1)) 0) e in
        let offset = eqb-true (word table r k) 0 b.0 in
        let size = eqb-true (word table r (k + 1)) 0 b.1 in
        place_none (le-ltb (length pool) (word table r k + word table r (k + 1)) (omega arith)) (rw (b.0, and-false) refl)

    nothing-length : is_nothing table r k ≡ true → length_refusal_at table pool r k ≡ none
    nothing-length e = let b = both_true (eqb (word table r k) 0) (eqb (word table r (k + 1)) 0) e in rw (b.1, and-false) refl

    free-length : {type : ℕ} → type ≡ word table r TYPE → must_be_empty type k ≡ false → length_refusal_at table pool r k ≡ none
    free-length t f = rw (← t, f) refl

    module _ {place : Place} (p : place ≡ place_at table r k) where
      pub fits-empty : place.length ≡ 0 → eqb place.offset.0 0 ≡ true → place_refusal_at table pool r k ≡ none
      fits-empty l o =
          let size : eqb (word table r (k + 1)) 0 ≡ true = eq-eqb (word table r (k + 1)) 0 (rw p at l) in
          let offset : eqb (word table r k) 0 ≡ true = rw p at o in
          nothing-place (rw (offset, size) refl)

      pub fits-inside : (place.length ≡ 0 → ⊥) → {offset size : ℕ} → offset ≡ place.offset.0 → size ≡ place.length → leb (offset + size) (length pool) ≡ true → place_refusal_at table pool r k ≡ none
      fits-inside l o s e =
          let h = leb-true _ (length pool) e in
          let inside : word table r k + word table r (k + 1) ≤ length pool = rw (o, s, p) at h in
          let some : word table r (k + 1) ≡ 0 → ⊥ = rw p at l in
          place_none (le-ltb (length pool) (word table r k + word table r (k + 1)) inside) (rw (ne_eqb (word table r (k + 1)) 0 some) refl)

  -- All four.
  abbrev Fits : ℕ → Type 0
  Fits k = place_refusal_at table pool r k ≡ none

  abbrev Draws : Type 0
  Draws = fields_refusal (length pool) r (node_at table pool r) ≡ none

  all_none : Fits PREFIX → Fits LOCAL_NAME → Fits URI → Fits VALUE → length_refusal_at table pool r PREFIX ≡ none → length_refusal_at table pool r LOCAL_NAME ≡ none → length_refusal_at table pool r URI ≡ none → length_refusal_at table pool r VALUE ≡ none → Draws
  all_none p l u v q m w x = passes table pool r ∙ two_none (four-none p l u v) (four-none q m w x)

  module _ {type : ℕ} (t : type ≡ word table r TYPE) where
    pub plain-text : type ≡ TEXT → (is_nothing table r PREFIX ≡ true) × (is_nothing table r LOCAL_NAME ≡ true) × (is_nothing table r URI ≡ true) → Fits VALUE → Draws
    plain-text e n v =
        all_none (nothing-place PREFIX n.0) (nothing-place LOCAL_NAME n.1) (nothing-place URI n.2) v (nothing-length PREFIX n.0) (nothing-length LOCAL_NAME n.1) (nothing-length URI n.2) (free-length VALUE (sym e ∙ t) text-free)

    pub plain-attribute : type ≡ ATTRIBUTE → Fits PREFIX × Fits LOCAL_NAME × Fits URI → Fits VALUE → Draws
    plain-attribute e n v =
        let a = sym e ∙ t in
        all_none n.0 n.1 n.2 v (free-length PREFIX a attribute-free.0) (free-length LOCAL_NAME a attribute-free.1) (free-length URI a attribute-free.2) (free-length VALUE a attribute-free.3)

    pub plain-element : type ≡ ELEMENT → Fits PREFIX × Fits LOCAL_NAME × Fits URI → is_nothing table r VALUE ≡ true → Draws
    plain-element e n v =
        let a = sym e ∙ t in
        all_none n.0 n.1 n.2 (nothing-place VALUE v) (free-length PREFIX a element-free.0) (free-length LOCAL_NAME a element-free.1) (free-length URI a element-free.2) (nothing-length VALUE v)
