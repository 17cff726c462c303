-- What one look at a field and at a row tells.
-- Assumes nothing.
use Rattle.std.specs.Prelude.{Ok}
use Prim.Native.Nat.{ℕ, ◌+◌, ◌≤◌, ◌<◌}
use mathlib.Core.Path.{◌≡◌, refl, sym, ◌∙◌}
use mathlib.Core.Bool.{Bool, true, false, ◌&&◌, ◌||◌, not}
use mathlib.Core.List.{List, [], ◌∷◌}
use mathlib.Core.Option.{none}
use native.Mathlib.Omega.{arith}
use borrow.Author.Tests.{eqb-true, eqb-false, ne_eqb, ltb-true, ltb-false}
use lib.Dec.{eqb, leb, ltb}
use lib.ListN.{length}
use Rattle.rules.specs.Lists.{all_of, is_one_of}
use Rattle.rules.specs.Table.{MOST_ROWS, TYPE, PARENT, PREFIX, LOCAL_NAME, URI, VALUE, ELEMENT, ATTRIBUTE, TEXT, DECLARATION, part, word, field_at, node_at, nodes, row_count}
use Rattle.rules.specs.Utf8.{is_ascii, well_formed}
use Rattle.rules.specs.Refusals.{parent_rule, bad_structure}
use Rattle.rules.specs.declared.Place.{Place}
use Rattle.rules.proofs.Lists.{by_cases, both_true, true-not-false, equal-same_bytes}
use Rattle.rules.proofs.Refusals.{verdict-accepted}
use Rattle.rows.specs.Reading.{place_at}
use Rattle.numbers.specs.Numbers.{Names}
use Rattle.kinds.specs.Kinds.{GOOD, OTHER, kind_of}
use Rattle.dictionary.specs.Dictionary.{last_of, spelling, Dictionary}
use Rattle.dictionary.proofs.Laws.{spelled}
use Rattle.tree.specs.Parents.{line_of, rule_allows}
use Rattle.tree.proofs.Parents.{structure-elsewhere}
use Rattle.fields.specs.Passes.{place_refusal_at, is_nothing}
use Rattle.fields.proofs.Fitting.{nothing-place, fits-inside, plain-text, plain-attribute, plain-element}
use Rattle.value_bytes.proofs.Values.{ascii-formed}
use Rattle.row_names.proofs.Good.{good-text, good-named}
use Rattle.name_refusals.proofs.Drawn.{good-passed}
use Rattle.numbering.proofs.Numbering.{kinds-named, kinds-none}
use Rattle.faults.specs.Faults.{fault_refusal}
use Rattle.faults.proofs.Laws.{place-fields, drawn-names}
use Rattle.plain_rows.specs.declared.Told.{Told}
use Rattle.plain_rows.specs.Plain.{Known, GoodValue, Inside, Named, Plain}

-- Of two tests one holds.
one_holds : (a b : Bool) → (a || b) ≡ true → b ≡ false → a ≡ true
one_holds true b e n = refl
one_holds false b e n = absurd (true-not-false e n)

-- A field: its place has neither an offset nor a length, or has a length and lies in the pool.
module _ (table pool : List ℕ) (r k : ℕ) {place : Place} (p : place ≡ place_at table r k) where
  pub nothing_read : (eqb place.offset.0 0 && eqb place.length 0) ≡ true → is_nothing table r k ≡ true
  nothing_read e = rw p at e

  pub nothing-empty : (eqb place.offset.0 0 && eqb place.length 0) ≡ true → (field_at table pool r k).bytes ≡ []
  nothing-empty e =
      let size = eqb-true (word table r (k + 1)) 0 (both_true (eqb (word table r k) 0) (eqb (word table r (k + 1)) 0) (nothing_read e)).1 in
      rw size refl

  pub place-fits :
      (place.length ≡ 0 → (eqb place.offset.0 0 && eqb place.length 0) ≡ false → ⊥) → {within nothing : Bool}
      → within ≡ leb (place.offset.0 + place.length) (length pool) → nothing ≡ (eqb place.offset.0 0 && eqb place.length 0) → (long : Bool) → (long && within || nothing) ≡ true
      → place_refusal_at table pool r k ≡ none
  place-fits full {within} {nothing} w n long e =
      by_cases (eqb place.offset.0 0 && eqb place.length 0)
      (λ t. nothing-place table pool r k (nothing_read t))
      (λ t.
      let inside = (both_true long within (one_holds (long && within) nothing e (n ∙ t))).1 in
      fits-inside table pool r k p (λ z. full z t) refl refl (sym w ∙ inside))

-- The number of a name that is remembered, or 0.
module _ {pool dictionary : List ℕ} (g : Dictionary dictionary pool) (offset size : ℕ) {number : ℕ} (d : 0 < number → Names (spelling dictionary pool) (last_of dictionary) number (part pool offset size)) where
  pub number-given : Names (spelling dictionary pool) (last_of dictionary) number (spelling dictionary pool number)
  number-given =
      record {
        known = by_cases (ltb 0 number) (λ t. (d (ltb-true 0 number t)).known) (λ t. let z = ltb-false 0 number t in omega arith);
        spelled = refl;
      }

  -- One that is not 0 has bytes.
  pub number-long : 0 < number → size ≡ 0 → ⊥
  number-long h z =
      let n = d h in
      let s = spelled g in
      let none : spelling dictionary pool number ≡ spelling dictionary pool 0 = n.spelled ∙ rw z (sym s.empty) in
      true-not-false (s.distinct number 0 n.known (omega arith) ∙ equal-same_bytes none) (ne_eqb number 0 (λ e. omega arith))

-- Number 0 is the empty name.
empty-named : {pool dictionary : List ℕ} → Dictionary dictionary pool → {number : ℕ} → number ≡ 0 → {bytes : List ℕ} → bytes ≡ [] → Names (spelling dictionary pool) (last_of dictionary) number bytes
empty-named g z e = rw (z, e) (record { known = omega arith; spelled = (spelled g).empty })

-- What is known of the name of a field.
module _ (table pool dictionary : List ℕ) (r k : ℕ) (g : Dictionary dictionary pool) {place : Place} (p : place ≡ place_at table r k) {number : ℕ} (d : 0 < number → Names (spelling dictionary pool) (last_of dictionary) number (part pool place.offset.0 place.length)) {within nothing : Bool} (w : within ≡ leb (place.offset.0 + place.length) (length pool)) (n : nothing ≡ (eqb place.offset.0 0 && eqb place.length 0)) (e : (ltb 0 number && within || nothing) ≡ true) where
  known-names : Names (spelling dictionary pool) (last_of dictionary) number (field_at table pool r k).bytes
  known-names =
      by_cases (ltb 0 number)
      (λ t. rw p at (d (ltb-true 0 number t)))
      (λ t.
      let low = ltb-false 0 number t in
      let z : number ≡ 0 = omega arith in
      let is : nothing ≡ true = rw t at e in
      empty-named g z (nothing-empty table pool r k p (sym n ∙ is)))

  pub known-field : Known table pool dictionary r k number
  known-field =
      record {
        fits =
            place-fits table pool r k p
            (λ z t.
            let long = (both_true (ltb 0 number) within (one_holds (ltb 0 number && within) nothing e (n ∙ t))).0 in
            number-long g place.offset.0 place.length d (ltb-true 0 number long) z)
            w n (ltb 0 number) e;
        names = known-names;
      }

-- The value of a row.
module _ (table pool : List ℕ) (r : ℕ) {place : Place} (p : place ≡ place_at table r VALUE) {within nothing : Bool} (w : within ≡ leb (place.offset.0 + place.length) (length pool)) (n : nothing ≡ (eqb place.offset.0 0 && eqb place.length 0)) (e : (ltb 0 place.length && within || nothing) ≡ true) where
  value-fits : place_refusal_at table pool r VALUE ≡ none
  value-fits =
      place-fits table pool r VALUE p
      (λ z t.
      let long = ltb-true 0 place.length (both_true (ltb 0 place.length) within (one_holds (ltb 0 place.length && within) nothing e (n ∙ t))).0 in
      omega arith)
      w n (ltb 0 place.length) e

  pub value-formed : well_formed (field_at table pool r VALUE).bytes ≡ true → GoodValue table pool r
  value-formed f = record { fits = value-fits; formed = f }

  pub value-ascii : all_of is_ascii pool ≡ true → GoodValue table pool r
  value-ascii a = value-formed (ascii-formed pool a (word table r VALUE) (word table r (VALUE + 1)))

-- An element that has no value has a good one.
pub value-nothing : (table pool : List ℕ) (r : ℕ) {place : Place} → place ≡ place_at table r VALUE → (eqb place.offset.0 0 && eqb place.length 0) ≡ true → GoodValue table pool r
unfolding well_formed
value-nothing table pool r p e =
    record { fits = nothing-place table pool r VALUE (nothing_read table pool r VALUE p e); formed = rw (nothing-empty table pool r VALUE p e) refl }

-- An element, an attribute or a text may stand under an element.
allowed : (kind : ℕ) → is_one_of (ELEMENT ∷ ATTRIBUTE ∷ TEXT ∷ []) kind ≡ true → true ≡ rule_allows (parent_rule kind) (line_of ELEMENT)
unfolding parent_rule rule_allows line_of
allowed kind e =
    by_cases (eqb kind ELEMENT)
    (λ a. rw (eqb-true kind ELEMENT a) refl)
    (λ a.
    by_cases (eqb kind ATTRIBUTE)
    (λ b. rw (eqb-true kind ATTRIBUTE b) refl)
    (λ b.
    by_cases (eqb kind TEXT)
    (λ c. rw (eqb-true kind TEXT c) refl)
    (λ c. let none : false ≡ true = rw (a, b, c) at e in absurd (true-not-false none refl))))

-- One of two types.
pub named-type : (kind : ℕ) → (not (eqb kind ELEMENT) && not (eqb kind ATTRIBUTE)) ≡ false → is_one_of (ELEMENT ∷ ATTRIBUTE ∷ TEXT ∷ []) kind ≡ true
named-type kind e =
    by_cases (eqb kind ELEMENT)
    (λ a. rw a)
    (λ a. by_cases (eqb kind ATTRIBUTE) (λ b. rw (a, b)) (λ b. let none : true ≡ false = rw (a, b) at e in absurd (true-not-false refl none)))

module _ (table pool dictionary : List ℕ) (r : ℕ) where
  -- The names of an element or attribute, each known, of good kinds.
  module _ (is : (not (eqb (word table r TYPE) ELEMENT) && not (eqb (word table r TYPE) ATTRIBUTE)) ≡ false) where
    not-declaration : word table r TYPE ≡ DECLARATION → ⊥
    not-declaration d = let none : true ≡ false = rw d at is in true-not-false refl none

    attribute : (word table r TYPE ≡ ELEMENT → ⊥) → word table r TYPE ≡ ATTRIBUTE
    attribute n =
        eqb-true (word table r TYPE) ATTRIBUTE
        (by_cases (eqb (word table r TYPE) ATTRIBUTE) (λ a. a) (λ a. let none : true ≡ false = rw (ne_eqb (word table r TYPE) ELEMENT n, a) at is in absurd (true-not-false refl none)))

    pub named-told :
        {of : Told} → of.owner.0 ≡ word table r PARENT → of.kind ≡ word table r TYPE → {a b c : ℕ} → Known table pool dictionary r PREFIX of.prefix.0 → a ≡ kind_of (field_at table pool r PREFIX).bytes
        → Known table pool dictionary r LOCAL_NAME of.local.0 → b ≡ kind_of (field_at table pool r LOCAL_NAME).bytes → Known table pool dictionary r URI of.uri.0
        → c ≡ kind_of (field_at table pool r URI).bytes → (leb a c && leb c OTHER && leb a GOOD && eqb b GOOD) ≡ true → Named table pool dictionary r of
    named-told o t p a l b u c e =
        record {
          owner = o;
          kind = t;
          prefix = p.names;
          local = l.names;
          uri = u.names;
          good = good-named (node_at table pool r) refl (kinds-named (node_at table pool r) a b c not-declaration) is e;
          fields = λ v n.
              by_cases (eqb (word table r TYPE) ELEMENT)
              (λ x. let y = eqb-true (word table r TYPE) ELEMENT x in plain-element table pool r refl y (p.fits, l.fits, u.fits) (n y))
              (λ x. plain-attribute table pool r refl (attribute (eqb-false (word table r TYPE) ELEMENT x)) (p.fits, l.fits, u.fits) v);
        }

  -- A text without names.
  pub nameless-told :
      Dictionary dictionary pool → word table r TYPE ≡ TEXT → {of : Told} → of.owner.0 ≡ word table r PARENT → of.kind ≡ TEXT → of.prefix.0 ≡ 0 → of.local.0 ≡ 0 → of.uri.0 ≡ 0
      → {a b c : Place} → a ≡ place_at table r PREFIX → b ≡ place_at table r LOCAL_NAME → c ≡ place_at table r URI → {prefix local uri : Bool} → prefix ≡ (eqb a.offset.0 0 && eqb a.length 0)
      → local ≡ (eqb b.offset.0 0 && eqb b.length 0) → uri ≡ (eqb c.offset.0 0 && eqb c.length 0) → (prefix && local && uri) ≡ true → Named table pool dictionary r of
  nameless-told g t {of} o k x y z a b c {prefix} {local} {uri} p l u e =
      let both = both_true (prefix && local) uri e in
      let two = both_true prefix local both.0 in
      let no-prefix = nothing-empty table pool r PREFIX a (sym p ∙ two.0) in
      let no_local = nothing-empty table pool r LOCAL_NAME b (sym l ∙ two.1) in
      let no-uri = nothing-empty table pool r URI c (sym u ∙ both.1) in
      record {
        owner = o;
        kind = k ∙ sym t;
        prefix = empty-named g x no-prefix;
        local = empty-named g y no_local;
        uri = empty-named g z no-uri;
        good = good-text (node_at table pool r) refl (kinds-none (node_at table pool r) no-prefix no_local no-uri (λ d. omega arith)) t refl;
        fields = λ v n. plain-text table pool r refl t (nothing_read table pool r PREFIX a (sym p ∙ two.0), nothing_read table pool r LOCAL_NAME b (sym l ∙ two.1), nothing_read table pool r URI c (sym u ∙ both.1)) v;
      }

  -- A row whose names and value are good has no fault.
  module _ (h : r < row_count table) (few : row_count table ≤ MOST_ROWS) (i : Inside table r) (is : is_one_of (ELEMENT ∷ ATTRIBUTE ∷ TEXT ∷ []) (word table r TYPE) ≡ true) where
    stands : bad_structure (nodes table pool) r ≡ false
    stands =
        let before = i.before in
        let above = i.above in
        sym (structure-elsewhere table pool r h refl refl (λ e. omega arith) before refl (allowed (word table r TYPE) is ∙ rw above refl) refl (λ d. omega arith))

    pub plain-told : {of : Told} → Named table pool dictionary r of → GoodValue table pool r → (word table r TYPE ≡ ELEMENT → is_nothing table r VALUE ≡ true) → Plain table pool dictionary r of
    plain-told n v nothing =
        let fields = n.fields v.fits nothing in
        let place = place-fields table pool r h stands {drawn = Ok tt} (rw fields refl) in
        let names = good-passed r (node_at table pool r) n.good refl (rw v.formed refl) in
        record {
          inside = i;
          type = is;
          named = n;
          faultless = verdict-accepted (fault_refusal table pool r) (sym (drawn-names table pool r h place refl names));
        }

-- A text is no element, and one of the three types.
module _ {type : ℕ} (t : type ≡ TEXT) where
  pub text-type : is_one_of (ELEMENT ∷ ATTRIBUTE ∷ TEXT ∷ []) type ≡ true
  text-type = rw t refl

  pub text-element : {A : Type 0} → type ≡ ELEMENT → A
  text-element e = absurd (omega arith)

-- As the code reads.
pub sum-read : (most : ℕ) {a b offset size : ℕ} → a ≡ offset → b ≡ size → leb (a + b) most ≡ leb (offset + size) most
sum-read most a b = rw (a, b) refl

pub type-read : {kind type : ℕ} → kind ≡ type → (not (eqb kind ELEMENT) && not (eqb kind ATTRIBUTE)) ≡ false → (not (eqb type ELEMENT) && not (eqb type ATTRIBUTE)) ≡ false
type-read k e = rw (← k) e
