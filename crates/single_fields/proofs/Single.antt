-- Refusals 3, 12 and 13: what one field is refused for, as the code tests it.
-- Assumes nothing.
use Rattle.std.specs.Prelude.{Ok, Err}
use Prim.Native.Nat.{ℕ, ◌+◌}
use mathlib.Core.Path.{◌≡◌, refl}
use mathlib.Core.Bool.{Bool, true, false, ◌&&◌, ◌||◌, not, or_assoc, or-false}
use mathlib.Core.List.{List}
use lib.Dec.{eqb, ltb}
use lib.ListN.{length}
use Rattle.rules.specs.Table.{TYPE, PREFIX, LOCAL_NAME, URI, VALUE, ELEMENT, ATTRIBUTE, DECLARATION, word, is_element, is_level1}
use Rattle.rules.specs.Refusals.{verdict, must_be_empty}
use Rattle.rules.specs.declared.Place.{Place}
use Rattle.rules.specs.declared.Refusal.{Refusal}
use Rattle.rows.specs.Reading.{place_at}
use Rattle.single_fields.specs.Single.{place_refusal_at, length_refusal_at}

module _ (table pool : List ℕ) (r k : ℕ) {place : Place} (p : place ≡ place_at table r k) where
  -- 3 then 12
  module _ {offset size : ℕ} (o : offset ≡ place.offset.0) (s : size ≡ place.length) where
    pub past-pool : ltb (length pool) (offset + size) ≡ true → Err (Refusal.PastPool (record { 0 = r }) k) ≡ verdict (place_refusal_at table pool r k)
    past-pool e = let f = rw (o, s, p) at e in rw f refl

    module _ (past : ltb (length pool) (offset + size) ≡ false) where
      pub without-length : (eqb place.length 0 && not (eqb place.offset.0 0)) ≡ true → Err (Refusal.OffsetWithoutLength (record { 0 = r }) k) ≡ verdict (place_refusal_at table pool r k)
      without-length e = let f = rw (o, s, p) at past in let g = rw p at e in rw (f, g) refl

      pub passed-place : (eqb place.length 0 && not (eqb place.offset.0 0)) ≡ false → (Ok tt) ≡ verdict (place_refusal_at table pool r k)
      passed-place e = let f = rw (o, s, p) at past in let g = rw p at e in rw (f, g) refl

  -- 13
  module _ {kind : ℕ} (t : kind ≡ word table r TYPE) {must : Bool} (m : must ≡ must_be_empty kind k) where
    pub refused-length : (must && not (eqb place.length 0)) ≡ true → Err (Refusal.MustBeEmpty (record { 0 = r }) k) ≡ verdict (length_refusal_at table pool r k)
    refused-length e = let f = rw (m, t, p) at e in rw f refl

    pub passed_length : (must && not (eqb place.length 0)) ≡ false → (Ok tt) ≡ verdict (length_refusal_at table pool r k)
    passed_length e = let f = rw (m, t, p) at e in rw f refl

-- Which fields must be empty.
pub must-be-empty : (kind k : ℕ) {level1 element : Bool} → level1 ≡ is_level1 kind → element ≡ is_element kind
    → (element && eqb k VALUE || (eqb kind DECLARATION || level1) && (eqb k PREFIX || eqb k URI)
    || not (eqb kind ELEMENT || eqb kind ATTRIBUTE || (eqb kind DECLARATION || level1)) && (eqb k PREFIX || eqb k LOCAL_NAME || eqb k URI)) ≡ must_be_empty kind k
unfolding must_be_empty
must-be-empty kind k l e = rw (l, e) (simp (or_assoc, or-false) refl)
