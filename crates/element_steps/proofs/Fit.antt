-- What holds of every state that normalization passes through.
-- Assumes nothing.
use Prim.Native.Nat.{ℕ, ◌≤◌, ◌<◌}
use mathlib.Core.Path.{◌≡◌, refl, ◌∙◌, ap}
use mathlib.Core.Bool.{true}
use mathlib.Core.List.{List, [], ◌∷◌, ◌++◌, map, append-nil}
use native.Mathlib.Nat.{lt_of_lt_of_le}
use native.Mathlib.Omega.{arith}
use lib.ListN.{length, set, length-append, length-map, length-set}
use lib.Dec.{eqb}
use borrow.Author.Tests.{eqb-true}
use Rattle.rules.specs.Lists.{any_of, is_empty, same_bytes}
use Rattle.rules.specs.Table.{ELEMENT, ATTRIBUTE, Field, no_field, Node, node, is_element}
use Rattle.rules.specs.Lookups.{scope_at, in_scope_uri, uri_bytes}
use Rattle.rules.specs.Normalization.{State, new_declaration, with_prefix, is_own_declaration, revalued, declare, repair_element, Repair, keep, take_declared, take_built_in, declare_own, make_numbered, new_prefix, new_rows, perform, repair_of, is_attribute_of, repair_attribute}
use Rattle.rules.proofs.Lists.{by_cases, both_true}
use Rattle.rules.proofs.Scope.{SameCore, core-equal, kept-prefix, node-append, node-map, revalued-core}
use Rattle.rules.proofs.Repairs.{is-element}
use Rattle.rules.proofs.Unique.{node-last, steady-element, steady-attribute}
use Rattle.rules.proofs.Passable.{passable-element, passable-attribute}
use Rattle.scopes.specs.Rows.{Tree}
use Rattle.bindings.proofs.Kept.{tree-kept}
use Rattle.element_steps.specs.Buffers.{Fit}

-- Rows that keep their types and parents.
tree-core : (ns ms : List Node) → length ms ≡ length ns → ((r : ℕ) → r < length ns → SameCore (node ns r) (node ms r)) → Tree ns → Tree ms
tree-core ns ms size core tree = tree-kept ns ms tree (omega arith) core (λ r past within. absurd (omega arith))

-- One declaration more, of an element.
tree-append : (ns : List Node) (e maker : ℕ) (prefix uri : Field) → e < length ns → is_element (node ns e).type ≡ true → Tree ns → Tree (ns ++ new_declaration e maker prefix uri ∷ [])
tree-append ns e maker prefix uri within element tree =
    let d = new_declaration e maker prefix uri in
    let size = length-append ns (d ∷ []) in
    tree-kept ns (ns ++ d ∷ []) tree (omega arith) (λ r less. core-equal (node-append ns (d ∷ []) r less))
    (λ r past less.
    let last : r ≡ length ns = omega arith in
    let is : node (ns ++ d ∷ []) r ≡ d = ap (node (ns ++ d ∷ [])) last ∙ node-last ns d in
    rw is (refl, within, element))

tree-declare : (ns : List Node) (e maker : ℕ) (prefix uri : Field) → e < length ns → is_element (node ns e).type ≡ true → Tree ns → Tree (declare e maker prefix uri ns)
unfolding declare
tree-declare ns e maker prefix uri within element tree =
    let f = revalued e prefix.bytes uri in
    by_cases (any_of (is_own_declaration e prefix.bytes) ns)
    (λ q. rw q (tree-core ns (map f ns) (length-map ns f) (λ r less. rw (node-map f ns r less) (revalued-core e prefix.bytes uri (node ns r))) tree))
    (λ q. rw q (tree-append ns e maker prefix uri within element tree))

tree-element : (ns : List Node) (e : ℕ) → e < length ns → is_element (node ns e).type ≡ true → Tree ns → Tree (repair_element e ns)
unfolding repair_element
tree-element ns e within element tree =
    by_cases (is_empty (node ns e).uri.bytes)
    (λ q.
    by_cases (is_empty (uri_bytes (in_scope_uri (scope_at ns e) [])))
    (λ t. rw (q, t) tree)
    (λ t. rw (q, t) (tree-declare ns e (node ns e).maker no_field no_field within element tree)))
    (λ q.
    by_cases (same_bytes (uri_bytes (in_scope_uri (scope_at ns e) (node ns e).prefix.bytes)) (node ns e).uri.bytes)
    (λ t. rw (q, t) tree)
    (λ t. rw (q, t) (tree-declare ns e (node ns e).maker (node ns e).prefix (node ns e).uri within element tree)))

tree-new : (ms : List Node) (e maker : ℕ) (prefix uri : Field) (repair : Repair) → e < length ms → is_element (node ms e).type ≡ true → Tree ms → Tree (ms ++ new_rows e maker prefix uri repair)
unfolding new_rows
tree-new ms e maker prefix uri keep within element tree = rw (append-nil ms) tree
tree-new ms e maker prefix uri (take_declared f) within element tree = rw (append-nil ms) tree
tree-new ms e maker prefix uri (take_built_in b) within element tree = rw (append-nil ms) tree
tree-new ms e maker prefix uri declare_own within element tree = tree-append ms e maker prefix uri within element tree
tree-new ms e maker prefix uri (make_numbered b) within element tree = tree-append ms e maker prefix uri within element tree

tree-attribute : (total e a : ℕ) (s : State) → a < total → total ≤ length s.rows → e < length s.rows → is_element (node s.rows e).type ≡ true → Tree s.rows → Tree (repair_attribute e a s).rows
unfolding repair_attribute perform
tree-attribute total e a s small long within element tree =
    let ns = s.rows in
    let n = node ns a in
    by_cases (is_attribute_of e n)
    (λ q.
    let both = both_true (eqb n.type ATTRIBUTE) (eqb n.parent e) q in
    let repair = repair_of (scope_at ns e) n in
    let f = new_prefix s.pool n repair in
    let kept = kept-prefix total e ns a f small long (eqb-true n.type ATTRIBUTE both.0) (eqb-true n.parent e both.1) in
    let ms = set ns a (with_prefix f n) in
    let size : length ms ≡ length ns = length-set ns a (with_prefix f n) in
    rw q (tree-new ms e n.maker f n.uri repair (omega arith) (rw (kept.core e within).type element) (tree-core ns ms size kept.core tree)))
    (λ q. rw q tree)

pub fit-element : (total r : ℕ) (s : State) → r < total → (node s.rows r).type ≡ ELEMENT → Fit total s → Fit total (record { rows = repair_element r s.rows; pool = s.pool })
fit-element total r s i t h =
    let j = lt_of_lt_of_le i h.steady.long in
    record {
      steady = steady-element total r s i t h.steady;
      passable = passable-element r s.rows j t h.passable;
      tree = tree-element s.rows r j (is-element (node s.rows r) t) h.tree;
    }

pub fit-attribute : (total e a : ℕ) (s : State) → a < total → e < length s.rows → is_element (node s.rows e).type ≡ true → Fit total s → Fit total (repair_attribute e a s)
fit-attribute total e a s i j t h =
    record {
      steady = steady-attribute total e a s i t h.steady;
      passable = passable-attribute e a s (lt_of_lt_of_le i h.steady.long) h.steady.sound h.passable;
      tree = tree-attribute total e a s i h.steady.long j t h.tree;
    }
