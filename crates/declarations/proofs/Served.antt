-- Whether a declaration serves.
-- Assumes nothing.
use Prim.Native.Nat.{ℕ, ◌<◌}
use mathlib.Core.Bool.{Bool, true, false, cond, and-false}
use mathlib.Core.List.{List, []}
use mathlib.Core.Path.{◌≡◌, refl, sym, ap, ◌∙◌}
use lib.Dec.{eqb, ltb}
use borrow.Author.Tests.{eq-eqb, ne_eqb, ltb-true, ltb-false}
use Rattle.rules.specs.Lists.{first_that, is_empty, same_bytes}
use Rattle.rules.specs.Table.{TYPE, DECLARATION, xml_prefix, xmlns_prefix, xml_uri, Field, Node, nodes, node_at, word, row_count}
use Rattle.rules.specs.Lookups.{declares, unless_empty, or_unbound, value_of, in_scope_uri, uri_bytes, serves}
use Rattle.rules.proofs.Lists.{by_cases, empty-equal, same_bytes-equal}
use Rattle.notes.specs.Notes.{LOCAL_NAME, VALUE, note_at}
use Rattle.rows.specs.Reading.{found}
use Rattle.declarations.specs.Meant.{Meant}
use Rattle.declarations.proofs.Rows.{found_some, found_none}
use Rattle.declarations.proofs.Meanings.{none-names, empty-number, local-names, value-names, declared-legal}

-- The bytes of a value, or of none when it is empty.
pub value-bytes : (f : Field) → uri_bytes (or_unbound (unless_empty f)) ≡ f.bytes
value-bytes f =
    by_cases (is_empty f.bytes)
    (λ t. rw t (sym (empty-equal f.bytes t)))
    (λ t. rw t refl)

pub in-scope-means : (scope : List Node) (prefix : List ℕ) → same_bytes prefix xml_prefix ≡ false → same_bytes prefix xmlns_prefix ≡ false → or_unbound (value_of (first_that (declares prefix) scope)) ≡ in_scope_uri scope prefix
unfolding in_scope_uri
in-scope-means scope prefix other another = rw (other, another) refl

module _ {table pool notes : List ℕ} {number : ℕ} {name : List ℕ} (m : Meant table pool notes number name) where
  -- The number of the value of a declaration that may be missing.
  pub value-asked :
      (d : ℕ) → (d < row_count table → (node_at table pool d).type ≡ DECLARATION) → (v : ℕ) → v ≡ cond (ltb d (row_count table)) (note_at notes d VALUE) 0
      → eqb v number ≡ same_bytes (uri_bytes (or_unbound (value_of (found (nodes table pool) d)))) name
  value-asked d type v read =
      by_cases (ltb d (row_count table))
      (λ t.
      let within = ltb-true d (row_count table) t in
      rw (read, t, found_some table pool d within, value-bytes (node_at table pool d).value) (m.asked (note_at notes d VALUE) (node_at table pool d).value.bytes (value-names m d within (type within))))
      (λ t. rw (read, t, found_none table pool d (ltb-false d (row_count table) t)) (m.asked 0 [] (none-names m)))

  module _ (scope : List Node) (r : ℕ) (within : r < row_count table) (type : word table r TYPE ≡ DECLARATION) where
    value_same : eqb (note_at notes r VALUE) number ≡ same_bytes (node_at table pool r).value.bytes name
    value_same = m.asked (note_at notes r VALUE) (node_at table pool r).value.bytes (value-names m r within type)

    pub serves-other : (v : ℕ) → v ≡ note_at notes r VALUE → (v ≡ number → ⊥) → false ≡ serves scope name (node_at table pool r)
    unfolding serves
    serves-other v read other = rw (← value_same, ← read, ne_eqb v number other, and-false) refl

    module _ (p : ℕ) (prefix : p ≡ note_at notes r LOCAL_NAME) where
      empty-same : eqb p 0 ≡ is_empty (node_at table pool r).local.bytes
      empty-same = rw prefix (empty-number m (local-names m r within))

      pub serves-default : p ≡ 0 → false ≡ serves scope name (node_at table pool r)
      unfolding serves
      serves-default none? = rw (← empty-same, eq-eqb p 0 none?) refl

      pub serves_by :
          (v : ℕ) → v ≡ note_at notes r VALUE → v ≡ number → (p ≡ 0 → ⊥) → same_bytes name xml_uri ≡ false → (is : Bool)
          → is ≡ same_bytes (uri_bytes (or_unbound (value_of (first_that (declares (node_at table pool r).local.bytes) scope)))) name
          → is ≡ serves scope name (node_at table pool r)
      unfolding serves
      serves_by v read same full other is found-is =
          let legal = declared-legal m r within type in
          let has : same_bytes (node_at table pool r).value.bytes name ≡ true = sym value_same ∙ ap (λ (x : ℕ). eqb x number) (sym read) ∙ eq-eqb v number same in
          let value : (node_at table pool r).value.bytes ≡ name = same_bytes-equal (node_at table pool r).value.bytes name has in
          let apart = legal.xml_alone ∙ ap (λ (b : List ℕ). same_bytes b xml_uri) value ∙ other in
          found-is ∙ ap (λ b. same_bytes (uri_bytes b) name) (in-scope-means scope (node_at table pool r).local.bytes apart legal.not_xmlns)
          ∙ rw (← empty-same, ne_eqb p 0 full, has) refl

-- The number of a value as it is read.
module _ (table notes : List ℕ) (d : ℕ) where
  pub value-here : ltb d (row_count table) ≡ true → note_at notes d VALUE ≡ cond (ltb d (row_count table)) (note_at notes d VALUE) 0
  value-here is = rw is refl

  pub value-missing : ltb d (row_count table) ≡ false → 0 ≡ cond (ltb d (row_count table)) (note_at notes d VALUE) 0
  value-missing is = rw is refl
