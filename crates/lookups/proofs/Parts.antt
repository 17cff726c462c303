-- A found place lies in the pool, so the part that is handed back stands at it.
-- Assumes nothing.
use Rattle.std.specs.Prelude.{Some, None, Ok, Err}
use Prim.Native.Nat.{ℕ, ◌+◌, ◌≤◌, min}
use native.Mathlib.Omega.{arith}
use mathlib.Core.Bool.{Bool, true, false}
use mathlib.Core.List.{List, [], ◌∷◌}
use mathlib.Core.Option.{Option, none, some}
use mathlib.Core.Path.{◌≡◌, refl}
use denote.Ref.{Bor}
use lib.ListN.{length}
use lib.Dec.{ltb, leb}
use borrow.Author.Tests.{ltb-true, ltb-false, le-leb, leb-true}
use Rattle.rules.specs.Lists.{is_empty, same_bytes}
use Rattle.rules.specs.Table.{xml_prefix, xmlns_prefix, Field, Node, nodes, node, row_count}
use Rattle.rules.specs.Refusals.{refused_if, unless_refused, check_refusal}
use Rattle.rules.specs.Lookups.{Binding, declared, built_in_xml, built_in_xmlns, unbound, or_unbound, uri_of_prefix, prefix_of_uri, bound, without_built_ins, lookup_elements, findings, lookup_refusal, lookup_at, uri_of_prefix_at, prefix_of_uri_at}
use Rattle.rules.specs.Answers.{bound_place, located_place, Lookup}
use Rattle.rules.specs.declared.Refusal.{Refusal}
use Rattle.rules.specs.declared.Question.{Question}
use Rattle.rules.proofs.Lists.{by_cases}
use Rattle.rules.proofs.Table.{no_row}
use Rattle.rules.proofs.Refusals.{all_none}
use Rattle.rules.proofs.Accepted.{Accepted, FieldAccepted, FieldsAccepted, fields-accepted, unrefused}
use Rattle.pool.specs.Parts.{StandsAt}
use Rattle.deciders.specs.Deciding.{Ordinary}
use Rattle.outward.proofs.Left.{uri_lookup, prefix_lookup}
use Rattle.outward.proofs.Every.{answers-good}
use Rattle.rules.specs.declared.Bound.{Bound}

-- The field, if one is found, starts in the pool, or at its end.
abbrev binding_starts : ℕ → Binding → Bool
binding_starts size (declared f) = leb f.offset size
binding_starts size built_in_xml = true
binding_starts size built_in_xmlns = true
binding_starts size unbound = true

field-starts : (size : ℕ) (f : Field) → FieldAccepted size f → leb f.offset size ≡ true
field-starts size f is = le-leb f.offset size (omega (arith, is.in_pool))

bound-starts : (size : ℕ) (b : Binding) → binding_starts size b ≡ true → (bound_place (Ok (bound b))).offset.0 ≤ size
unfolding bound_place
bound-starts size (declared f) is = leb-true f.offset size is
bound-starts size built_in_xml is = omega arith
bound-starts size built_in_xmlns is = omega arith
bound-starts size unbound is = omega arith

module _ (table pool : List ℕ) (is : Accepted table pool) where
  abbrev ns : List Node
  ns = nodes table pool

  -- The fields of every row, those of no row too.
  row-fields : (r : ℕ) → FieldsAccepted (length pool) (node ns r)
  row-fields r =
      by_cases (ltb r (length ns)) (λ less. fields-accepted ns (length pool) r (is.row r (ltb-true r (length ns) less)))
      (λ more.
      rw (no_row ns r (ltb-false r (length ns) more))
      (record {
        prefix = record { in_pool = omega arith; no_offset = λ e. refl };
        local = record { in_pool = omega arith; no_offset = λ e. refl };
        uri = record { in_pool = omega arith; no_offset = λ e. refl };
        value = record { in_pool = omega arith; no_offset = λ e. refl };
      }))

  xml-starts : (prefix path : List ℕ) → same_bytes prefix xml_prefix ≡ true → binding_starts (length pool) (uri_of_prefix ns prefix path) ≡ true
  unfolding uri_of_prefix
  xml-starts prefix [] is = refl
  xml-starts prefix (e ∷ outward) is = rw is refl

  xmlns-starts :
      (prefix path : List ℕ) → same_bytes prefix xml_prefix ≡ false → same_bytes prefix xmlns_prefix ≡ true
      → binding_starts (length pool) (uri_of_prefix ns prefix path) ≡ true
  unfolding uri_of_prefix
  xmlns-starts prefix [] other is = refl
  xmlns-starts prefix (e ∷ outward) other is = rw (other, is) refl

  ordinary-starts : (prefix path : List ℕ) → Ordinary prefix → binding_starts (length pool) (uri_of_prefix ns prefix path) ≡ true
  ordinary-starts prefix path ordinary =
      answers-good ns (uri_lookup ns prefix ordinary) (binding_starts (length pool)) refl (λ e. field-starts (length pool) (node ns e).uri (row-fields e).uri)
      (λ r less.
      by_cases (is_empty (node ns r).value.bytes) (λ empty. rw empty refl)
      (λ full. rw full (field-starts (length pool) (node ns r).value (row-fields r).value))) path

  uri-starts : (prefix path : List ℕ) → binding_starts (length pool) (uri_of_prefix ns prefix path) ≡ true
  uri-starts prefix path =
      by_cases (same_bytes prefix xml_prefix) (xml-starts prefix path)
      (λ not_xml.
      by_cases (same_bytes prefix xmlns_prefix) (xmlns-starts prefix path not_xml)
      (λ not_xmlns. ordinary-starts prefix path (record { not_xml = not_xml; not_xmlns = not_xmlns })))

  prefix-starts : (uri path : List ℕ) → binding_starts (length pool) (or_unbound (prefix_of_uri ns uri path)) ≡ true
  unfolding prefix_of_uri
  prefix-starts uri path =
      by_cases (is_empty uri) (λ empty. rw empty refl)
      (λ full.
      rw full
      (answers-good ns (prefix_lookup ns path uri) (λ o. binding_starts (length pool) (or_unbound o)) refl (λ e. field-starts (length pool) (node ns e).prefix (row-fields e).prefix)
      (λ r less. field-starts (length pool) (node ns r).local (row-fields r).local) path))

-- Of a lookup that is not refused the table is accepted; a refusal has the place of nothing.
module _ (table pool : List ℕ) (r : ℕ) where
  refused-starts : (x : Refusal) → (bound_place (Err x)).offset.0 ≤ length pool
  unfolding bound_place
  refused-starts x = omega arith

  plain-place : (found : Lookup) → located_place (without_built_ins found) ≡ bound_place found
  unfolding without_built_ins located_place bound_place
  plain-place (Ok (Some (Bound.At p))) = refl
  plain-place (Ok (Some Bound.Xml)) = refl
  plain-place (Ok (Some Bound.Xmlns)) = refl
  plain-place (Ok None) = refl
  plain-place (Err x) = refl

  table-accepted : lookup_refusal table pool r ≡ none → Accepted table pool
  unfolding lookup_refusal
  table-accepted is =
      unrefused table pool (all_none (check_refusal table pool ∷ refused_if (leb (row_count table) r) Refusal.NoSuchRow ∷ []) is).0

  lookup-place :
      (question : Question) (query : List ℕ)
      → (Accepted table pool → binding_starts (length pool) (findings question (nodes table pool) query (lookup_elements (nodes table pool) r)) ≡ true)
      → (bound_place (lookup_at question table pool r query)).offset.0 ≤ length pool
  unfolding lookup_at
  lookup-place question query starts = go (lookup_refusal table pool r) refl
    where
      found : Binding
      found = findings question (nodes table pool) query (lookup_elements (nodes table pool) r)

      go : (o : Option Refusal) → lookup_refusal table pool r ≡ o → (bound_place (unless_refused o Err (Ok (bound found)))).offset.0 ≤ length pool
      go none is = bound-starts (length pool) found (starts (table-accepted is))
      go (some x) is = refused-starts x

  pub uri-place : (prefix : List ℕ) → (bound_place (uri_of_prefix_at table pool r prefix)).offset.0 ≤ length pool
  unfolding findings
  uri-place prefix =
      lookup-place Question.UriOfPrefix prefix (λ is. uri-starts table pool is prefix (lookup_elements (nodes table pool) r))

  pub prefix-place : (uri : List ℕ) → (located_place (prefix_of_uri_at table pool r uri)).offset.0 ≤ length pool
  unfolding findings
  prefix-place uri =
      rw (plain-place (lookup_at Question.PrefixOfUri table pool r uri))
      (lookup-place Question.PrefixOfUri uri (λ is. prefix-starts table pool is uri (lookup_elements (nodes table pool) r)))

-- The part stands at a place that lies in the pool.
pub stands_at :
    {A : Type 0} (offset : A → ℕ) (pool part : Bor (List ℕ)) (found answer : A) → found ≡ answer → offset answer ≤ length pool.now
    → StandsAt pool (offset found) part → (part.ref_ptr.0 ≡ pool.ref_ptr.0) × (part.ref_ptr.1 ≡ pool.ref_ptr.1 + offset answer)
stands_at offset pool part found answer is inside stands =
    let at : part.ref_ptr.1 ≡ pool.ref_ptr.1 + min (offset answer) (length pool.now) = rw is at stands.place in
    (stands.block, omega (arith, at, inside))
