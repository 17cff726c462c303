-- Rows as most are: what one look at a field, at a row and at its names tells.
use Rattle.std.specs.Prelude.{ℕ, ◌<◌, ◌≡◌, true, List, [], ◌∷◌, length}
use Rattle.std.proofs.Math.Option.{none}
use Rattle.rules.specs.Lists.{is_one_of}
use Rattle.rules.specs.Table.{TYPE, PARENT, PREFIX, LOCAL_NAME, URI, VALUE, ELEMENT, ATTRIBUTE, TEXT, word, field_at, node_at}
use Rattle.rules.specs.Utf8.{well_formed}
use Rattle.rules.specs.Refusals.{fields_refusal}
use Rattle.numbers.specs.Numbers.{Names}
use Rattle.dictionary.specs.Dictionary.{last_of, spelling}
use Rattle.fields.specs.Passes.{place_refusal_at, is_nothing}
use Rattle.row_names.specs.RowNames.{GoodNames}
use Rattle.faults.specs.Faults.{fault_refusal}
use Rattle.plain_rows.specs.declared.Told.{Told}

-- The field of row r whose offset is this word lies in the pool, and its bytes have this number.
pub record Known (table pool dictionary : List ℕ) (r field number : ℕ) : Type 0 where
  pub fits : place_refusal_at table pool r field ≡ none
  pub names : Names (spelling dictionary pool) (last_of dictionary) number (field_at table pool r field).bytes

-- The value of row r, which may have one, draws no refusal.
pub record GoodValue (table pool : List ℕ) (r : ℕ) : Type 0 where
  pub fits : place_refusal_at table pool r VALUE ≡ none
  pub formed : well_formed (field_at table pool r VALUE).bytes ≡ true

-- Row r stands under an element before it.
pub record Inside (table : List ℕ) (r : ℕ) : Type 0 where
  pub before : word table r PARENT < r
  pub above : word table (word table r PARENT) TYPE ≡ ELEMENT

-- The names of row r are good and have these numbers, so that only its value can have a fault.
pub record Named (table pool dictionary : List ℕ) (r : ℕ) (of : Told) : Type 0 where
  pub owner : of.owner.0 ≡ word table r PARENT
  pub kind : of.kind ≡ word table r TYPE
  pub prefix : Names (spelling dictionary pool) (last_of dictionary) of.prefix.0 (field_at table pool r PREFIX).bytes
  pub local : Names (spelling dictionary pool) (last_of dictionary) of.local.0 (field_at table pool r LOCAL_NAME).bytes
  pub uri : Names (spelling dictionary pool) (last_of dictionary) of.uri.0 (field_at table pool r URI).bytes
  pub good : GoodNames (node_at table pool r)
  pub fields : place_refusal_at table pool r VALUE ≡ none → (word table r TYPE ≡ ELEMENT → is_nothing table r VALUE ≡ true) → fields_refusal (length pool) r (node_at table pool r) ≡ none

-- Row r is an element, an attribute or a text under an element and has no fault, and its names have these numbers.
pub record Plain (table pool dictionary : List ℕ) (r : ℕ) (of : Told) : Type 0 where
  pub inside : Inside table r
  pub type : is_one_of (ELEMENT ∷ ATTRIBUTE ∷ TEXT ∷ []) (word table r TYPE) ≡ true
  pub named : Named table pool dictionary r of
  pub faultless : fault_refusal table pool r ≡ none
