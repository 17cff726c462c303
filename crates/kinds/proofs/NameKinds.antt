-- What the kind of a name tells: the tests that the rules make of names.
-- Assumes nothing.
use Prim.Native.Nat.{ℕ}
use mathlib.Core.Path.{◌≡◌, refl, sym, ap, ◌∙◌}
use mathlib.Core.Bool.{Bool, true, false, not, ◌&&◌, and-true, or-false}
use mathlib.Core.List.{List, [], ◌∷◌}
use lib.Dec.{eqb, leb}
use borrow.Author.Tests.{eq-eqb, not-true}
use Rattle.rules.specs.Lists.{is_empty, same_bytes, all_of}
use Rattle.rules.specs.Table.{xml_prefix, xmlns_prefix, xml_uri, xmlns_uri}
use Rattle.rules.specs.Utf8.{following, well_formed}
use Rattle.rules.specs.Refusals.{good_name, is_first_byte, is_later_byte, is_name_byte}
use Rattle.rules.proofs.Lists.{by_cases, empty-equal, same_bytes-equal, both_true, true-both, either_left, either-right, all_of-weaken}
use Rattle.kinds.specs.Kinds.{EMPTY, XML, XMLNS, GOOD_WITH_COLONS, XML_URI, XMLNS_URI, OTHER, MALFORMED, first_met, kind_tests, kind_of}

-- No kind whose test is met passes.
fails : (pass : ℕ → Bool) (tests : List (Bool × ℕ)) (otherwise : ℕ) → all_of (λ t. not (pass t.1 && t.0)) tests ≡ true → pass otherwise ≡ false → pass (first_met tests otherwise) ≡ false
fails pass [] otherwise e o = o
fails pass ((test, kind) ∷ later) otherwise e o =
    let both = both_true (not (pass kind && test)) _ e in
    by_cases test
    (λ t. rw t (not-true (pass kind) (rw (t, and-true) at both.0)))
    (λ t. rw t (fails pass later otherwise both.1 o))

-- A good name is good with colons.
first-colons : (b : ℕ) → is_first_byte false b ≡ true → is_first_byte true b ≡ true
first-colons b e = either_left (eqb b 58) (rw or-false at e)

byte-colons : (b : ℕ) → is_name_byte false b ≡ true → is_name_byte true b ≡ true
byte-colons b e =
    by_cases (is_first_byte false b) (λ f. either_left (is_later_byte b) (first-colons b f)) (λ f. either-right (is_first_byte true b) (rw f at e))

good-colons : (name : List ℕ) → good_name false name ≡ true → good_name true name ≡ true
unfolding good_name
good-colons [] e = refl
good-colons (b ∷ bs) e =
    let both = both_true (is_first_byte false b) (all_of (is_name_byte false) bs) e in
    true-both (first-colons b both.0) (all_of-weaken (is_name_byte false) (is_name_byte true) byte-colons bs both.1)

pub kind-of-empty : kind_of [] ≡ EMPTY
unfolding kind_of
kind-of-empty = refl

module _ (name : List ℕ) where
  -- A name is built in where it has the kind of that name.
  built_in : (kind : ℕ) (word : List ℕ) → kind_of word ≡ kind → (same_bytes name word ≡ false → eqb (kind_of name) kind ≡ false) → same_bytes name word ≡ eqb (kind_of name) kind
  built_in kind word is other =
      by_cases (same_bytes name word) (λ e. rw (e, same_bytes-equal name word e, is) (sym (eq-eqb kind kind refl))) (λ e. rw e (sym (other e)))

  pub kind-xml : same_bytes name xml_prefix ≡ eqb (kind_of name) XML
  unfolding kind_of following well_formed xml_prefix
  kind-xml = built_in XML xml_prefix refl (λ e. fails (λ k. eqb k XML) (kind_tests name) OTHER (rw e) refl)

  pub kind-xmlns : same_bytes name xmlns_prefix ≡ eqb (kind_of name) XMLNS
  unfolding kind_of following well_formed xml_prefix xmlns_prefix
  kind-xmlns = built_in XMLNS xmlns_prefix refl (λ e. fails (λ k. eqb k XMLNS) (kind_tests name) OTHER (rw e) refl)

  pub kind-xml-uri : same_bytes name xml_uri ≡ eqb (kind_of name) XML_URI
  unfolding kind_of following well_formed xml_prefix xmlns_prefix xml_uri good_name
  kind-xml-uri = built_in XML_URI xml_uri refl (λ e. fails (λ k. eqb k XML_URI) (kind_tests name) OTHER (rw e) refl)

  pub kind-xmlns-uri : same_bytes name xmlns_uri ≡ eqb (kind_of name) XMLNS_URI
  unfolding kind_of following well_formed xml_prefix xmlns_prefix xml_uri xmlns_uri good_name
  kind-xmlns-uri = built_in XMLNS_URI xmlns_uri refl (λ e. fails (λ k. eqb k XMLNS_URI) (kind_tests name) OTHER (rw e) refl)

  -- Empty or one of the prefixes; if not, the other tests decide.
  by_bytes :
      {P : Type 0} → (name ≡ [] → P) → (name ≡ xml_prefix → P) → (name ≡ xmlns_prefix → P)
      → (is_empty name ≡ false → same_bytes name xml_prefix ≡ false → same_bytes name xmlns_prefix ≡ false → P) → P
  by_bytes empty xml xmlns other =
      by_cases (is_empty name)
      (λ n. empty (empty-equal name n))
      (λ n. by_cases (same_bytes name xml_prefix)
      (λ e. xml (same_bytes-equal name xml_prefix e))
      (λ e. by_cases (same_bytes name xmlns_prefix) (λ f. xmlns (same_bytes-equal name xmlns_prefix f)) (other n e)))

  pub kind-empty : is_empty name ≡ eqb (kind_of name) EMPTY
  unfolding kind_of
  kind-empty = by_cases (is_empty name) (λ n. rw n) (λ n. n ∙ sym (fails (λ k. eqb k EMPTY) (kind_tests name) OTHER (rw n) refl))

  -- Malformed bytes have a kind of their own.
  pub kind-malformed : well_formed name ≡ not (eqb (kind_of name) MALFORMED)
  unfolding kind_of well_formed
  kind-malformed =
      by_cases (is_empty name)
      (λ n. rw (empty-equal name n))
      (λ n. by_cases (well_formed name)
      (λ w. w ∙ sym (ap not (fails (λ k. eqb k MALFORMED) (kind_tests name) OTHER (rw w) refl)))
      (λ w. rw (n, w)))

  -- Of the others the kind tells which are good.
  module _ (w : well_formed name ≡ true) where
    pub kind-good : good_name false name ≡ leb (kind_of name) XMLNS
    unfolding kind_of xml_prefix xmlns_prefix good_name
    kind-good =
        by_bytes (λ e. rw e) (λ e. rw (w, e)) (λ e. rw (w, e))
        (λ n e f. by_cases (good_name false name) (λ g. rw (n, w, e, f, g)) (λ g. g ∙ sym (fails (λ k. leb k XMLNS) (kind_tests name) OTHER (rw (n, e, f, g)) refl)))

    pub kind-good-with-colons : good_name true name ≡ leb (kind_of name) GOOD_WITH_COLONS
    unfolding kind_of xml_prefix xmlns_prefix good_name
    kind-good-with-colons =
        by_bytes (λ e. rw e) (λ e. rw (w, e)) (λ e. rw (w, e))
        (λ n e f. by_cases (good_name false name)
        (λ g. good-colons name g ∙ rw (n, w, e, f, g))
        (λ g. by_cases (good_name true name)
        (λ k. rw (n, w, e, f, g, k))
        (λ k. k ∙ sym (fails (λ k. leb k GOOD_WITH_COLONS) (kind_tests name) OTHER (rw (n, e, f, g, k)) refl))))
