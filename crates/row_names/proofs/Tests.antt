-- Refusals 4 to 6 of one row, as the code tests them by the kinds of its names.
-- Assumes nothing.
use Prim.Native.Nat.{ℕ}
use mathlib.Core.Path.{◌≡◌, refl, sym, ap, ◌∙◌}
use mathlib.Core.Bool.{Bool, true, false, ◌&&◌, ◌||◌, not, and-false, or_assoc, or-false}
use mathlib.Core.List.{List}
use mathlib.Core.Option.{none}
use native.Mathlib.Omega.{arith}
use borrow.Author.Tests.{eqb-true, eqb-false, eq-eqb, ne_eqb, leb-true, le-leb}
use lib.Dec.{eqb, leb}
use Rattle.rules.specs.Table.{ELEMENT, ATTRIBUTE, DECLARATION, Node, is_level1}
use Rattle.rules.specs.Utf8.{well_formed}
use Rattle.rules.specs.Refusals.{good_name, encodings_refusal, bad_names, bad_namespace, bad_declaration}
use Rattle.rules.proofs.Lists.{by_cases, both_true, either_left}
use Rattle.rules.proofs.Accepted.{fields-encoded}
use Rattle.kinds.specs.Kinds.{EMPTY, GOOD, XML, XMLNS, GOOD_WITH_COLONS, OTHER, XML_URI, XMLNS_URI, MALFORMED, kind_of}
use Rattle.kinds.proofs.NameKinds.{kind-empty, kind-xml, kind-xmlns, kind-xml-uri, kind-xmlns-uri, kind-malformed, kind-good, kind-good-with-colons}
use Rattle.row_names.specs.declared.Kinds.{Kinds}
use Rattle.row_names.specs.RowNames.{kinds_of}

-- 14, of one name
module _ (name : List ℕ) {kind : ℕ} (k : kind ≡ kind_of name) where
  pub is-malformed : kind ≡ MALFORMED → well_formed name ≡ false
  is-malformed e = kind-malformed name ∙ ap not (eq-eqb (kind_of name) MALFORMED (sym k ∙ e))

  pub is-well-formed : (kind ≡ MALFORMED → ⊥) → well_formed name ≡ true
  is-well-formed e = kind-malformed name ∙ ap not (ne_eqb (kind_of name) MALFORMED (λ m. e (k ∙ m)))

-- A kind of a row's names.
module _ (n : Node) {kinds : Kinds} (k : kinds ≡ kinds_of n) where
  pub kind-prefix : kinds.prefix ≡ kind_of n.prefix.bytes
  unfolding kinds_of
  kind-prefix = rw k

  pub kind-local : kinds.local ≡ kind_of n.local.bytes
  unfolding kinds_of
  kind-local = rw k

  pub kind-uri : kinds.uri ≡ kind_of n.uri.bytes
  unfolding kinds_of
  kind-uri = rw k

-- One of two types, or neither.
neither : (a b : Bool) → (not a && not b) ≡ true → (a || (b || false)) ≡ false
neither true b e = sym e
neither false true e = sym e
neither false false e = refl

either : (a b : Bool) → (not a && not b) ≡ false → (a || (b || false)) ≡ true
either true b e = refl
either false true e = refl
either false false e = sym e

-- 4
pub good-tested : (colons : Bool) (name : List ℕ) {kind : ℕ} → kind ≡ kind_of name → well_formed name ≡ true → (leb kind XMLNS || (colons && leb kind GOOD_WITH_COLONS)) ≡ good_name colons name
good-tested false name k w = rw (k, or-false) (sym (kind-good name w))
good-tested true name k w =
    rw (k, kind-good-with-colons name w)
    (by_cases (leb (kind_of name) XMLNS)
    (λ e. let l = leb-true (kind_of name) XMLNS e in rw e (sym (le-leb (kind_of name) GOOD_WITH_COLONS (omega arith))))
    (λ e. rw e))

module _ (n : Node) {kind : ℕ} (t : kind ≡ n.type) {kinds : Kinds} (k : kinds ≡ kinds_of n) where
  pub names-tested :
      {level1 good_prefix good_local : Bool} → level1 ≡ is_level1 kind → good_prefix ≡ good_name level1 n.prefix.bytes → good_local ≡ good_name level1 n.local.bytes
      → ((eqb kind ELEMENT || eqb kind ATTRIBUTE || level1) && eqb kinds.local EMPTY || not good_prefix || not good_local) ≡ bad_names n
  unfolding bad_names
  names-tested l g h = rw (g, h, l, t, kind-local n k, ← kind-empty n.local.bytes) (simp or_assoc)

  -- Of good names only a missing one is refused.
  pub names-good :
      (leb kinds.prefix GOOD && leb kinds.local GOOD) ≡ true → (at : ℕ) → encodings_refusal at n ≡ none → {level1 : Bool} → level1 ≡ is_level1 kind
      → ((eqb kind ELEMENT || eqb kind ATTRIBUTE || level1) && eqb kinds.local EMPTY) ≡ bad_names n
  names-good e at w {level1} l =
      let f = fields-encoded at n w in
      let b = both_true (leb kinds.prefix GOOD) (leb kinds.local GOOD) e in
      let p = leb-true kinds.prefix GOOD b.0 in
      let q = leb-true kinds.local GOOD b.1 in
      let prefix : true ≡ good_name level1 n.prefix.bytes =
      sym (either_left _ (le-leb kinds.prefix XMLNS (omega arith))) ∙ good-tested level1 n.prefix.bytes (kind-prefix n k) f.prefix in
      let local : true ≡ good_name level1 n.local.bytes =
      sym (either_left _ (le-leb kinds.local XMLNS (omega arith))) ∙ good-tested level1 n.local.bytes (kind-local n k) f.local in
      sym (or-false _ ∙ or-false _) ∙ names-tested l prefix local

  -- 5
  pub namespace-other : (not (eqb kind ELEMENT) && not (eqb kind ATTRIBUTE)) ≡ true → false ≡ bad_namespace n
  unfolding bad_namespace
  namespace-other e = rw (← t, neither (eqb kind ELEMENT) (eqb kind ATTRIBUTE) e)

  module _ (is : (not (eqb kind ELEMENT) && not (eqb kind ATTRIBUTE)) ≡ false) where
    pub namespace-tested :
        (not (eqb kinds.prefix EMPTY) && eqb kinds.uri EMPTY || eqb kinds.uri XMLNS_URI || eqb kinds.prefix XMLNS || eqb kinds.prefix XML && not (eqb kinds.uri XML_URI)
        || eqb kind ELEMENT && eqb kinds.uri XML_URI && not (eqb kinds.prefix XML) || eqb kind ATTRIBUTE && eqb kinds.prefix EMPTY && eqb kinds.local XMLNS)
        ≡ bad_namespace n
    unfolding bad_namespace
    namespace-tested =
        rw (kind-prefix n k, kind-local n k, kind-uri n k, kind-empty n.prefix.bytes, kind-empty n.uri.bytes, kind-xml n.prefix.bytes, kind-xmlns n.prefix.bytes, kind-xmlns n.local.bytes, kind-xml-uri n.uri.bytes, kind-xmlns-uri n.uri.bytes, ← t, either (eqb kind ELEMENT) (eqb kind ATTRIBUTE) is)

    -- A good prefix with a URI of no other kind, or none with none, draws none.
    pub namespace-good : (leb kinds.prefix kinds.uri && leb kinds.uri OTHER && leb kinds.prefix GOOD && eqb kinds.local GOOD) ≡ true → false ≡ bad_namespace n
    namespace-good e =
        let a = both_true (leb kinds.prefix kinds.uri && leb kinds.uri OTHER && leb kinds.prefix GOOD) (eqb kinds.local GOOD) e in
        let b = both_true (leb kinds.prefix kinds.uri && leb kinds.uri OTHER) (leb kinds.prefix GOOD) a.0 in
        let c = both_true (leb kinds.prefix kinds.uri) (leb kinds.uri OTHER) b.0 in
        let below = leb-true kinds.prefix kinds.uri c.0 in
        let other = leb-true kinds.uri OTHER c.1 in
        let good = leb-true kinds.prefix GOOD b.1 in
        let local = eqb-true kinds.local GOOD a.1 in
        let uri-xml = ne_eqb kinds.uri XML_URI (λ x. omega arith) in
        let uri-xmlns = ne_eqb kinds.uri XMLNS_URI (λ x. omega arith) in
        let prefix-xml = ne_eqb kinds.prefix XML (λ x. omega arith) in
        let prefix-xmlns = ne_eqb kinds.prefix XMLNS (λ x. omega arith) in
        let not-xmlns = ne_eqb kinds.local XMLNS (λ x. omega arith) in
        let both : (not (eqb kinds.prefix EMPTY) && eqb kinds.uri EMPTY) ≡ false =
        by_cases (eqb kinds.prefix EMPTY)
        (λ z. rw z)
        (λ z. let some = eqb-false kinds.prefix EMPTY z in rw z (ne_eqb kinds.uri EMPTY (λ x. omega arith))) in
        sym (rw (both, uri-xmlns, prefix-xmlns, prefix-xml, uri-xml, not-xmlns) (simp and-false)) ∙ namespace-tested

-- 6
pub declaration-tested :
    (n : Node) → n.type ≡ DECLARATION → {local value : ℕ} → local ≡ kind_of n.local.bytes → value ≡ kind_of n.value.bytes
    → (eqb local XMLNS || eqb local XML && not (eqb value XML_URI) || not (eqb local XML) && eqb value XML_URI || eqb value XMLNS_URI || not (eqb local EMPTY) && eqb value EMPTY) ≡ bad_declaration n
unfolding bad_declaration
declaration-tested n d l v =
    rw (eq-eqb n.type DECLARATION d, v, l, kind-empty n.local.bytes, kind-empty n.value.bytes, kind-xml n.local.bytes, kind-xmlns n.local.bytes, kind-xml-uri n.value.bytes, kind-xmlns-uri n.value.bytes)
