-- How many rows normalization makes: at most one for each element and each attribute, so at most twice the rows of the table.
-- Assumes nothing.
use Prim.Native.Nat.{ℕ, zero, suc, ◌+◌, ◌*◌, ◌≤◌, ◌<◌}
use mathlib.Core.Path.{◌≡◌, refl, sym, ◌∙◌}
use mathlib.Core.Bool.{Bool, ◌||◌}
use mathlib.Core.List.{List, [], ◌∷◌}
use native.Mathlib.Nat.{le_refl, le_trans, lt_of_lt_of_le}
use native.Mathlib.Omega.{arith}
use lib.ListN.{length, get_or, take, length-append, length-map, length-set}
use lib.Seq.{take-suc, take-length}
use lib.Dec.{eqb, ltb}
use borrow.Author.Tests.{eqb-true, eqb-false}
use Rattle.rules.specs.Lists.{filtered, any_of, is_empty, same_bytes}
use Rattle.rules.specs.Table.{ELEMENT, ATTRIBUTE, Field, no_field, Node, no_node, node}
use Rattle.rules.specs.Lookups.{scope_at, in_scope_uri, uri_bytes}
use Rattle.rules.specs.Normalization.{State, is_own_declaration, revalued, declare, repair_element, Repair, keep, take_declared, take_built_in, declare_own, make_numbered, new_prefix, new_rows, perform, repair_of, is_attribute_of, repair_attribute, repair_attributes, normalize_row, normalize_rows}
use Rattle.rules.proofs.Lists.{by_cases, both_true, filtered-append}
use Rattle.rules.proofs.Scope.{SameCore, core-refl, core-trans, Kept}
use Rattle.rules.proofs.Repairs.{kept-element, kept-attribute}
use Rattle.rules.proofs.Unique.{row-element, row_other}
use Rattle.rules.proofs.Bounds.{count-all, count-weaken, count-split, is_owned_below, attributes_before, attributes-one, attributes-none, attributes-next, attributes-skip}

-- A step appends at most one row.
element-more : (e : ℕ) (ns : List Node) → length (repair_element e ns) ≤ length ns + 1
unfolding repair_element declare
element-more e ns =
    by_cases (is_empty (node ns e).uri.bytes)
    (λ q.
    by_cases (is_empty (uri_bytes (in_scope_uri (scope_at ns e) [])))
    (λ t. rw (q, t) (omega arith))
    (λ t. rw (q, t) (declared (node ns e).maker no_field no_field)))
    (λ q.
    by_cases (same_bytes (uri_bytes (in_scope_uri (scope_at ns e) (node ns e).prefix.bytes)) (node ns e).uri.bytes)
    (λ t. rw (q, t) (omega arith))
    (λ t. rw (q, t) (declared (node ns e).maker (node ns e).prefix (node ns e).uri)))
  where
    declared : (maker : ℕ) (prefix uri : Field) → length (declare e maker prefix uri ns) ≤ length ns + 1
    declared maker prefix uri =
        by_cases (any_of (is_own_declaration e prefix.bytes) ns)
        (λ q. rw (q, length-map ns (revalued e prefix.bytes uri)) (omega arith))
        (λ q. rw q (simp length-append (omega arith)))

new-more : (e maker : ℕ) (prefix uri : Field) (repair : Repair) → length (new_rows e maker prefix uri repair) ≤ 1
unfolding new_rows
new-more e maker prefix uri keep = omega arith
new-more e maker prefix uri (take_declared f) = omega arith
new-more e maker prefix uri (take_built_in b) = omega arith
new-more e maker prefix uri declare_own = omega arith
new-more e maker prefix uri (make_numbered b) = omega arith

perform-more : (e a : ℕ) (repair : Repair) (s : State) → length (perform e a repair s).rows ≤ length s.rows + 1
unfolding perform
perform-more e a repair s = simp (length-append, length-set) (omega (arith, new-more e (node s.rows a).maker (new_prefix s.pool (node s.rows a) repair) (node s.rows a).uri repair))

-- The elements among the first k rows.
abbrev is_typed : ℕ → Node → Bool
is_typed type n = eqb n.type type

abbrev elements_before : List Node → ℕ → ℕ
elements_before ns k = length (filtered (is_typed ELEMENT) (take k ns))

elements-next : (ns : List Node) (k : ℕ) → k < length ns → elements_before ns (suc k) ≡ elements_before ns k + length (filtered (is_typed ELEMENT) (node ns k ∷ []))
unfolding node
elements-next ns k i =
    rw (take-suc ns k no_node i, filtered-append (is_typed ELEMENT) (take k ns) (get_or ns k no_node ∷ []))
    (length-append (filtered (is_typed ELEMENT) (take k ns)) (filtered (is_typed ELEMENT) (get_or ns k no_node ∷ [])))

-- The state after so much has no more rows than this.
pub record Counted (base : List Node) (most : ℕ) (s : State) : Type 0 where
  pub long : length base ≤ length s.rows
  pub core : (r : ℕ) → r < length base → SameCore (node base r) (node s.rows r)
  pub few : length s.rows ≤ most

module _ (base : List Node) (k : ℕ) where
  counted-kept : (s s' : State) (most most' : ℕ) → Kept (length base) k s.rows s'.rows → length s'.rows ≤ most' → Counted base most s → Counted base most' s'
  counted-kept s s' most most' kept few h =
      record {
        long = le_trans h.long kept.count;
        core = λ r i. core-trans (h.core r i) (kept.core r (lt_of_lt_of_le i h.long));
        few = few;
      }

  attribute-few : (t : State) (count most : ℕ) → count < length base → Counted base (most + attributes_before base k count) t → length (repair_attribute k count t).rows ≤ most + attributes_before base k (suc count)
  unfolding repair_attribute
  attribute-few t count most i before =
      let c = before.core count i in
      let same : is_attribute_of k (node t.rows count) ≡ is_attribute_of k (node base count) = rw (c.type, c.parent) refl in
      by_cases (is_attribute_of k (node t.rows count))
      (λ q. rw q (omega (arith, perform-more k count (repair_of (scope_at t.rows k) (node t.rows count)) t, before.few, attributes-one base k count i (sym same ∙ q))))
      (λ q. rw q (omega (arith, before.few, attributes-none base k count i (sym same ∙ q))))

  counted-attributes :
      (count : ℕ) (s : State) (most : ℕ) → count ≤ length base → Counted base (most + attributes_before base k 0) s
      → Counted base (most + attributes_before base k count) (repair_attributes k count s)
  unfolding repair_attributes
  counted-attributes zero s most i h = h
  counted-attributes (suc count) s most i h =
      let t = repair_attributes k count s in
      let before = counted-attributes count s most (omega arith) h in
      counted-kept t (repair_attribute k count t) (most + attributes_before base k count) (most + attributes_before base k (suc count)) (kept-attribute (length base) k count t i before.long)
      (attribute-few t count most i before) before

  counted-row : (s : State) → k < length base → Counted base (length base + elements_before base k + attributes_before base k 0) s → Counted base (length base + elements_before base (suc k) + attributes_before base (suc k) 0) (normalize_row (length base) k s)
  counted-row s i h =
      let c = h.core k i in
      let next = elements-next base k i in
      by_cases (eqb (node s.rows k).type ELEMENT)
      (λ q.
      let t = eqb-true (node s.rows k).type ELEMENT q in
      let one : length (filtered (is_typed ELEMENT) (node base k ∷ [])) ≡ 1 = rw (sym c.type ∙ t) refl in
      let begun =
      counted-kept s (record { rows = repair_element k s.rows; pool = s.pool }) (length base + elements_before base k + attributes_before base k 0) (length base + elements_before base (suc k) + attributes_before base k 0)
      (kept-element (length base) k s.rows (lt_of_lt_of_le i h.long) h.long t) (omega (arith, element-more k s.rows, h.few)) h
      in
      rw (row-element (length base) k s t, attributes-next base k)
      (counted-attributes (length base) (record { rows = repair_element k s.rows; pool = s.pool }) (length base + elements_before base (suc k)) (le_refl (length base)) begun))
      (λ q.
      rw (row_other (length base) k s (eqb-false (node s.rows k).type ELEMENT q))
      (record { long = h.long; core = h.core; few = omega (arith, h.few, attributes-skip base k 0) }))

counted-rows : (base : List Node) (count : ℕ) (s : State) → count ≤ length base → Counted base (length base + elements_before base 0 + attributes_before base 0 0) s → Counted base (length base + elements_before base count + attributes_before base count 0) (normalize_rows (length base) count s)
unfolding normalize_rows
counted-rows base zero s i h = h
counted-rows base (suc count) s i h = counted-row base count (normalize_rows (length base) count s) i (counted-rows base count s (omega arith) h)

-- Elements and attributes are different rows.
both-few : (ns : List Node) (k : ℕ) → elements_before ns (length ns) + attributes_before ns k 0 ≤ length ns
unfolding attributes_before
both-few ns k =
    let either = count-split (λ (n : Node). is_typed ELEMENT n || is_typed ATTRIBUTE n) (is_typed ELEMENT) (is_typed ATTRIBUTE) (λ n. refl)
    (λ n q. rw (eqb-true n.type ELEMENT q) refl) ns in
    let all = count-all (λ (n : Node). is_typed ELEMENT n || is_typed ATTRIBUTE n) ns in
    let owned = count-weaken (is_owned_below ATTRIBUTE k) (is_typed ATTRIBUTE) (λ n q. (both_true (eqb n.type ATTRIBUTE) (ltb n.parent k) q).0) ns in
    rw (take-length ns) (omega arith)

pub rows-most : (base : List Node) (pool : List ℕ) → length (normalize_rows (length base) (length base) (record { rows = base; pool = pool })).rows ≤ 2 * length base
rows-most base pool =
    let start : Counted base (length base + elements_before base 0 + attributes_before base 0 0) (record { rows = base; pool = pool }) =
    record { long = le_refl (length base); core = λ r i. core-refl (node base r); few = omega arith } in
    omega (arith, (counted-rows base (length base) (record { rows = base; pool = pool }) (le_refl (length base)) start).few, both-few base (length base))
