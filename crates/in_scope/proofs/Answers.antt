-- What each answer of the code is in the definitions.
-- Assumes nothing.
use Rattle.std.specs.Prelude.{Some, None}
use Prim.Native.Nat.{ℕ, ◌≤◌, ◌<◌}
use mathlib.Core.Bool.{Bool, true, false, cond}
use mathlib.Core.List.{List}
use mathlib.Core.Option.{none, some}
use mathlib.Core.Path.{◌≡◌, refl, sym, ap, ◌∙◌}
use native.Mathlib.Omega.{arith}
use lib.ListN.{length}
use lib.Dec.{eqb, ltb}
use borrow.Author.Tests.{eq-eqb, ne_eqb, ltb-true, ltb-false}
use Rattle.rules.specs.Lists.{first_that, is_empty, same_bytes}
use Rattle.rules.specs.Table.{DECLARATION, LOCAL_NAME, VALUE, xml_prefix, xmlns_prefix, xml_uri, xmlns_uri, Node, nodes, node_at, field_at, row_count}
use Rattle.rules.specs.Lookups.{built_in_xml, built_in_xmlns, unbound, or_unbound, value_of, in_scope_uri, serves, prefix_of, in_scope_prefix, bound}
use Rattle.rules.specs.declared.Place.{Place}
use Rattle.rules.proofs.Lists.{by_cases, length-empty}
use Rattle.notes.specs.Notes.{VALUE as VALUE_NUMBER, note_at}
use Rattle.rows.specs.Reading.{place_at, found}
use Rattle.declarations.specs.Meant.{Meant}
use Rattle.declarations.proofs.Rows.{found_some, found_none}
use Rattle.declarations.proofs.Meanings.{empty-number, value-names}
use Rattle.rules.specs.declared.Bound.{Bound}

-- The built-in prefixes.
module _ (scope : List Node) (prefix : List ℕ) where
  pub in-scope-xml : same_bytes prefix xml_prefix ≡ true → built_in_xml ≡ in_scope_uri scope prefix
  unfolding in_scope_uri
  in-scope-xml is = rw is refl

  pub in-scope-xmlns : same_bytes prefix xml_prefix ≡ false → same_bytes prefix xmlns_prefix ≡ true → built_in_xmlns ≡ in_scope_uri scope prefix
  unfolding in_scope_uri
  in-scope-xmlns other is = rw (other, is) refl

-- The value of a declaration that may be missing, by its number.
module _ {table pool notes : List ℕ} {number : ℕ} {name : List ℕ} (m : Meant table pool notes number name) (d : ℕ) (type : d < row_count table → (node_at table pool d).type ≡ DECLARATION) (v : ℕ) (read : v ≡ cond (ltb d (row_count table)) (note_at notes d VALUE_NUMBER) 0) where
  -- the value, by whether it is empty
  by : d < row_count table → (t : Bool) → eqb v 0 ≡ t → or_unbound (value_of (found (nodes table pool) d)) ≡ or_unbound (cond t none (some (field_at table pool d VALUE)))
  by within t is =
      let there : ltb d (row_count table) ≡ true = by_cases (ltb d (row_count table)) (λ q. q) (λ q. let past = ltb-false d (row_count table) q in absurd (omega arith)) in
      let here : v ≡ note_at notes d VALUE_NUMBER = read ∙ ap (λ (q : Bool). cond q (note_at notes d VALUE_NUMBER) 0) there in
      let empty : is_empty (node_at table pool d).value.bytes ≡ t = sym (empty-number m (value-names m d within (type within))) ∙ ap (λ (n : ℕ). eqb n 0) (sym here) ∙ is in
      ap (λ o. or_unbound (value_of o)) (found_some table pool d within) ∙ ap (λ u. or_unbound (cond u none (some (field_at table pool d VALUE)))) empty

  pub value_none : v ≡ 0 → None ≡ bound (or_unbound (value_of (found (nodes table pool) d)))
  value_none zero? =
      by_cases (ltb d (row_count table))
      (λ q. sym (ap bound (by (ltb-true d (row_count table) q) true (eq-eqb v 0 zero?))))
      (λ q. sym (ap (λ o. bound (or_unbound (value_of o))) (found_none table pool d (ltb-false d (row_count table) q))))

  pub value-at : d < row_count table → (v ≡ 0 → ⊥) → (p : Place) → p ≡ place_at table d VALUE → Some (Bound.At p) ≡ bound (or_unbound (value_of (found (nodes table pool) d)))
  value-at within full p is = ap (λ (p : Place). Some (Bound.At p)) is ∙ sym (ap bound (by within false (ne_eqb v 0 full)))

pub value-within : (table notes : List ℕ) (d v : ℕ) → v ≡ cond (ltb d (row_count table)) (note_at notes d VALUE_NUMBER) 0 → (v ≡ 0 → ⊥) → d < row_count table
value-within table notes d v read full =
    by_cases (ltb d (row_count table))
    (λ q. ltb-true d (row_count table) q)
    (λ q. absurd (full (read ∙ rw q refl)))

-- The prefix of a declaration that may be missing.
module _ (table pool : List ℕ) (r : ℕ) where
  pub prefix-missing : row_count table ≤ r → None ≡ bound (prefix_of (found (nodes table pool) r))
  prefix-missing past = sym (ap (λ d. bound (prefix_of d)) (found_none table pool r past))

  pub prefix-place : r < row_count table → (p : Place) → p ≡ place_at table r LOCAL_NAME → Some (Bound.At p) ≡ bound (prefix_of (found (nodes table pool) r))
  prefix-place within p is = ap (λ (p : Place). Some (Bound.At p)) is ∙ sym (ap (λ d. bound (prefix_of d)) (found_some table pool r within))

-- The in-scope prefix of a URI.
module _ (scope : List Node) (uri : List ℕ) where
  empty-no : (length uri ≡ 0 → ⊥) → is_empty uri ≡ false
  empty-no full = length-empty uri ∙ ne_eqb (length uri) 0 full

  pub prefix-empty : length uri ≡ 0 → unbound ≡ in_scope_prefix scope uri
  unfolding in_scope_prefix
  prefix-empty empty = rw (length-empty uri ∙ eq-eqb (length uri) 0 empty) refl

  pub prefix-xml : (length uri ≡ 0 → ⊥) → same_bytes uri xml_uri ≡ true → built_in_xml ≡ in_scope_prefix scope uri
  unfolding in_scope_prefix
  prefix-xml full is = rw (empty-no full, is) refl

  pub prefix-xmlns : (length uri ≡ 0 → ⊥) → same_bytes uri xml_uri ≡ false → same_bytes uri xmlns_uri ≡ true → built_in_xmlns ≡ in_scope_prefix scope uri
  unfolding in_scope_prefix
  prefix-xmlns full other is = rw (empty-no full, other, is) refl

  pub prefix-serving :
      (length uri ≡ 0 → ⊥) → same_bytes uri xml_uri ≡ false → same_bytes uri xmlns_uri ≡ false
      → prefix_of (first_that (serves scope uri) scope) ≡ in_scope_prefix scope uri
  unfolding in_scope_prefix
  prefix-serving full other another = rw (empty-no full, other, another) refl
