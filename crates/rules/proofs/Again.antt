-- A result of normalization passes the whole check.
-- Assumes nothing.
use Prim.Native.Nat.{ℕ, zero, suc, ◌+◌, ◌*◌, ◌-◌, ◌%◌, ◌/◌, ◌≤◌, ◌<◌}
use mathlib.Core.Path.{◌≡◌, refl, sym, ◌∙◌, ap}
use mathlib.Core.Logic.{◌⊎◌, inl, inr}
use mathlib.Core.Bool.{Bool, true, false, ◌&&◌, ◌||◌, not}
use mathlib.Core.List.{List, [], ◌∷◌, ◌++◌, map, append-nil}
use mathlib.Core.Option.{Option, none, some}
use native.Mathlib.Nat.{le_refl, le_trans, lt_of_lt_of_le, le_of_suc-le-suc, not-suc-le-zero}
use native.Mathlib.Omega.{arith}
use lib.ListN.{length, get_or, take, set, replicate, length-append, length-map, length-set}
use lib.Seq.{get_or-append_seam, take_at}
use lib.Dec.{eqb, ltb}
use borrow.Author.Tests.{eqb-true, eqb-false, eq-eqb, ne_eqb, ltb-true, ltb-false, lt-ltb, le-ltb}
use Rattle.rules.specs.Lists.{any_of, all_of, is_empty, same_bytes}
use Rattle.rules.specs.Table.{WIDTH, MOST_ROWS, MOST_BYTES, NONE, PREFIX, LOCAL_NAME, URI, VALUE, ELEMENT, DECLARATION, Field, no_field, Node, no_node, worded_fields, nodes, words, node, row_count, is_element, ParentRule}
use Rattle.rules.specs.Utf8.{well_formed}
use Rattle.rules.specs.Answers.{filled_rows, filled_bytes}
use Rattle.rules.specs.Refusals.{refused_if, checked, bad_size, parent_rule, parent_allowed, second_element, bad_structure, offset_without_length, place_refusal, length_refusal, fields_refusal, encodings_refusal, is_double, faults, conflicts, row_refusal, check_refusal}
use Rattle.rules.specs.Lookups.{scope_at, in_scope_uri, uri_bytes}
use Rattle.rules.specs.Outputs.{padded}
use Rattle.rules.specs.Normalization.{State, new_declaration, with_prefix, is_own_declaration, revalued, declare, repair_element, Repair, keep, take_declared, take_built_in, declare_own, make_numbered, repair_of, new_prefix, new_rows, perform, is_attribute_of, repair_attribute, repair_attributes, normalize_row, normalize_rows, normal_form, success, too_many_rows, too_many_bytes, room_refusal}
use Rattle.rules.specs.Demands.{PassesAgain}
use Rattle.rules.specs.declared.Refusal.{Refusal}
use Rattle.rules.proofs.Lists.{by_cases, both_true, both_false, true-both, not-true, same_bytes-refl, all_of-every, all_of-get_or}
use Rattle.rules.proofs.Table.{no_row, length-words}
use Rattle.rules.proofs.Refusals.{not-refused, all_none, none-lowest}
use Rattle.rules.proofs.Accepted.{RowAccepted, Accepted, unrefused, structure-falls, fields-accepted, fields-encoded}
use Rattle.rules.proofs.Scope.{SameCore, core-refl, core-trans, Kept}
use Rattle.rules.proofs.Result.{fits_in, Inside, fits-inside, rows_back, succeeds}
use Rattle.rules.proofs.Repairs.{kept-element, kept-attribute}
use Rattle.rules.proofs.Unique.{Unique, Steady, steady-start, steady-element, steady-attribute, row-element, row_other}
use Rattle.rules.proofs.Passable.{good_field, Passable, is_passable, pass, passable-node, passable-element, passable-attribute}

-- What passes: from the tests of each row to the check.
pub accept-row : (ns : List Node) (pool_length r : ℕ) → RowAccepted ns pool_length r → row_refusal ns pool_length r ≡ none
unfolding row_refusal faults conflicts
accept-row ns pool_length r a = rw (a.structure, a.fields, a.encodings, a.names, a.namespace, a.declaration, a.double) refl

pub accept : (table pool : List ℕ) → bad_size table pool ≡ false → ((r : ℕ) → r < row_count table → RowAccepted (nodes table pool) (length pool) r) → check_refusal table pool ≡ none
unfolding check_refusal
accept table pool size rows =
    rw (size, none-lowest (row_refusal (nodes table pool) (length pool)) (row_count table) (λ r l. accept-row (nodes table pool) (length pool) r (rows r l))) refl

-- The fields of a row that passes by itself and lies in the pool.
module _ (pool : List ℕ) (r : ℕ) (n : Node) (i : Inside pool n) (p : Passable n) where
  no-offset : (f : Field) → good_field f ≡ true → offset_without_length f ≡ false
  unfolding good_field
  no-offset f g = not-true (offset_without_length f) (both_true (not (offset_without_length f)) (well_formed f.bytes) g).0

  well : (f : Field) → good_field f ≡ true → well_formed f.bytes ≡ true
  unfolding good_field
  well f g = (both_true (not (offset_without_length f)) (well_formed f.bytes) g).1

  place-passed : (word : ℕ) (f : Field) → f.offset + f.size ≤ length pool → good_field f ≡ true → place_refusal (length pool) r (word, f) ≡ none
  place-passed word f h g = rw (le-ltb (length pool) (f.offset + f.size) h, no-offset f g) refl

  fields-passed : fields_refusal (length pool) r n ≡ none
  unfolding fields_refusal
  fields-passed =
      rw (place-passed PREFIX n.prefix i.prefix p.prefix, place-passed LOCAL_NAME n.local i.local p.local, place-passed URI n.uri i.uri p.uri, place-passed VALUE n.value i.value p.value, p.no_prefix, p.no_local, p.no_uri, p.no_value)
      refl

  encodings-passed : encodings_refusal r n ≡ none
  unfolding encodings_refusal
  encodings-passed = rw (well n.prefix p.prefix, well n.local p.local, well n.uri p.uri, well n.value p.value) refl

-- The rows of the input pass by themselves.
module _ (ns : List Node) (pool_length r : ℕ) (a : RowAccepted ns pool_length r) where
  good : (f : Field) → (f.size ≡ 0 → f.offset ≡ 0) → well_formed f.bytes ≡ true → good_field f ≡ true
  unfolding good_field
  good f z w =
      by_cases (eqb f.size 0)
      (λ q. rw (q, eq-eqb f.offset 0 (z (eqb-true f.size 0 q)), w) refl)
      (λ q. rw (q, w) refl)

  input-passable : Passable (node ns r)
  unfolding fields_refusal
  input-passable =
      let n = node ns r in
      let f = fields-accepted ns pool_length r a in
      let w = fields-encoded r n a.encodings in
      let each = all_none (map (place_refusal pool_length r) (worded_fields n) ++ map (length_refusal n.type r) (worded_fields n)) a.fields in
      record {
        prefix = good n.prefix f.prefix.no_offset w.prefix;
        local = good n.local f.local.no_offset w.local;
        uri = good n.uri f.uri.no_offset w.uri;
        value = good n.value f.value.no_offset w.value;
        no_prefix = not-refused _ _ each.1.1.1.1.0;
        no_local = not-refused _ _ each.1.1.1.1.1.0;
        no_uri = not-refused _ _ each.1.1.1.1.1.1.0;
        no_value = not-refused _ _ each.1.1.1.1.1.1.1.0;
        names = a.names;
        namespace = a.namespace;
        declaration = a.declaration;
      }

-- New rows are declarations of element e.
abbrev New : ℕ → List Node → List Node → Type 0
New e ns ms = (r : ℕ) → length ns ≤ r → r < length ms → ((node ms r).type ≡ DECLARATION) × ((node ms r).parent ≡ e)

new_none : (e : ℕ) (ns ms : List Node) → length ms ≤ length ns → New e ns ms
new_none e ns ms h r l k = absurd (omega arith)

new-one : (e maker : ℕ) (ns ms : List Node) (prefix uri : Field) → length ms ≡ length ns → New e ns (ms ++ new_declaration e maker prefix uri ∷ [])
unfolding node
new-one e maker ns ms prefix uri same r l k =
    let long = length-append ms (new_declaration e maker prefix uri ∷ []) in
    let z : r ≡ length ms = omega arith in
    let last : node (ms ++ new_declaration e maker prefix uri ∷ []) r ≡ new_declaration e maker prefix uri =
    ap (node (ms ++ new_declaration e maker prefix uri ∷ [])) z ∙ get_or-append_seam ms (new_declaration e maker prefix uri) [] no_node
    in
    (ap (λ (n : Node). n.type) last, ap (λ (n : Node). n.parent) last)

new-declare : (e maker : ℕ) (prefix uri : Field) (ns : List Node) → New e ns (declare e maker prefix uri ns)
unfolding declare
new-declare e maker prefix uri ns =
    by_cases (any_of (is_own_declaration e prefix.bytes) ns)
    (λ q. rw q (new_none e ns (map (revalued e prefix.bytes uri) ns) (rw (length-map ns (revalued e prefix.bytes uri)) (le_refl (length ns)))))
    (λ q. rw q (new-one e maker ns ns prefix uri refl))

new_element : (e : ℕ) (ns : List Node) → New e ns (repair_element e ns)
unfolding repair_element
new_element e ns =
    by_cases (is_empty (node ns e).uri.bytes)
    (λ q.
    by_cases (is_empty (uri_bytes (in_scope_uri (scope_at ns e) [])))
    (λ t. rw (q, t) (new_none e ns ns (le_refl (length ns))))
    (λ t. rw (q, t) (new-declare e (node ns e).maker no_field no_field ns)))
    (λ q.
    by_cases (same_bytes (uri_bytes (in_scope_uri (scope_at ns e) (node ns e).prefix.bytes)) (node ns e).uri.bytes)
    (λ t. rw (q, t) (new_none e ns ns (le_refl (length ns))))
    (λ t. rw (q, t) (new-declare e (node ns e).maker (node ns e).prefix (node ns e).uri ns)))

module _ (e a : ℕ) (s : State) where
  abbrev changed : Field → List Node
  changed prefix = set s.rows a (with_prefix prefix (node s.rows a))

  same_length : (prefix : Field) → length (changed prefix) ≡ length s.rows
  same_length prefix = length-set s.rows a (with_prefix prefix (node s.rows a))

  new-nothing : (prefix : Field) → New e s.rows (changed prefix ++ [])
  new-nothing prefix = new_none e s.rows (changed prefix ++ []) (rw (append-nil (changed prefix), same_length prefix) (le_refl (length s.rows)))

  new-perform : (repair : Repair) → New e s.rows (perform e a repair s).rows
  unfolding perform new_prefix new_rows
  new-perform keep = new-nothing (node s.rows a).prefix
  new-perform (take_declared found) = new-nothing found
  new-perform (take_built_in bytes) = new-nothing (record { offset = length s.pool; size = length bytes; bytes = bytes })
  new-perform declare_own =
      new-one e (node s.rows a).maker s.rows (changed (node s.rows a).prefix) (node s.rows a).prefix (node s.rows a).uri (same_length (node s.rows a).prefix)
  new-perform (make_numbered bytes) =
      let after : Field = record { offset = length s.pool; size = length bytes; bytes = bytes } in
      new-one e (node s.rows a).maker s.rows (changed after) after (node s.rows a).uri (same_length after)

  new-attribute : New e s.rows (repair_attribute e a s).rows
  unfolding repair_attribute
  new-attribute =
      by_cases (is_attribute_of e (node s.rows a))
      (λ q. rw q (new-perform (repair_of (scope_at s.rows e) (node s.rows a))))
      (λ q. rw q (new_none e s.rows s.rows (le_refl (length s.rows))))

-- What holds of every state: the table's rows keep what names them, and those beyond are declarations of its elements.
pub record Standing (base : List Node) (s : State) : Type 0 where
  pub steady : Steady (length base) s
  pub passable : all_of is_passable s.rows ≡ true
  pub core : (r : ℕ) → r < length base → SameCore (node base r) (node s.rows r)
  pub added : (r : ℕ) → length base ≤ r → r < length s.rows → ((node s.rows r).type ≡ DECLARATION) × ((node s.rows r).parent < length base) × ((node base (node s.rows r).parent).type ≡ ELEMENT)

module _ (base : List Node) (e : ℕ) (within : e < length base) (element : (node base e).type ≡ ELEMENT) where
  standing-next : (s t : State) → Steady (length base) t → all_of is_passable t.rows ≡ true → Kept (length base) e s.rows t.rows → New e s.rows t.rows → Standing base s → Standing base t
  standing-next s t steady passable kept new h =
      record {
        steady = steady;
        passable = passable;
        core = λ r i. core-trans (h.core r i) (kept.core r (lt_of_lt_of_le i h.steady.long));
        added = λ r l k.
            by_cases (ltb r (length s.rows))
            (λ q.
            let j = ltb-true r (length s.rows) q in
            let c = kept.core r j in
            let o = h.added r l j in
            (c.type ∙ o.0, rw c.parent o.1, rw c.parent o.2))
            (λ q.
            let n = new r (ltb-false r (length s.rows) q) k in
            (n.0, rw n.1 within, rw n.1 element));
      }

  -- the element is one in every state
  still : (s : State) → Standing base s → (node s.rows e).type ≡ ELEMENT
  still s h = (h.core e within).type ∙ element

  standing-element : (s : State) → Standing base s → Standing base (record { rows = repair_element e s.rows; pool = s.pool })
  standing-element s h =
      let j = lt_of_lt_of_le within h.steady.long in
      standing-next s (record { rows = repair_element e s.rows; pool = s.pool }) (steady-element (length base) e s within (still s h) h.steady)
      (passable-element e s.rows j (still s h) h.passable) (kept-element (length base) e s.rows j h.steady.long (still s h)) (new_element e s.rows) h

  standing-attribute : (a : ℕ) (s : State) → a < length base → Standing base s → Standing base (repair_attribute e a s)
  standing-attribute a s i h =
      let t : is_element (node s.rows e).type ≡ true = rw (still s h) refl in
      standing-next s (repair_attribute e a s) (steady-attribute (length base) e a s i t h.steady)
      (passable-attribute e a s (lt_of_lt_of_le i h.steady.long) h.steady.sound h.passable) (kept-attribute (length base) e a s i h.steady.long) (new-attribute e a s) h

  standing-attributes : (count : ℕ) (s : State) → count ≤ length base → Standing base s → Standing base (repair_attributes e count s)
  unfolding repair_attributes
  standing-attributes zero s i h = h
  standing-attributes (suc count) s i h = standing-attribute count (repair_attributes e count s) i (standing-attributes count s (omega arith) h)

standing-row : (base : List Node) (r : ℕ) (s : State) → r < length base → Standing base s → Standing base (normalize_row (length base) r s)
standing-row base r s i h =
    by_cases (eqb (node s.rows r).type ELEMENT)
    (λ q.
    let t = eqb-true (node s.rows r).type ELEMENT q in
    let b = sym (h.core r i).type ∙ t in
    rw (row-element (length base) r s t)
    (standing-attributes base r i b (length base) (record { rows = repair_element r s.rows; pool = s.pool }) (le_refl (length base)) (standing-element base r i b s h)))
    (λ q. rw (row_other (length base) r s (eqb-false (node s.rows r).type ELEMENT q)) h)

standing-rows : (base : List Node) (count : ℕ) (s : State) → count ≤ length base → Standing base s → Standing base (normalize_rows (length base) count s)
unfolding normalize_rows
standing-rows base zero s i h = h
standing-rows base (suc count) s i h = standing-row base count (normalize_rows (length base) count s) i (standing-rows base count s (omega arith) h)

module _ (table pool : List ℕ) (a : Accepted table pool) where
  abbrev base : List Node
  base = nodes table pool

  pub rows-passable : all_of is_passable base ≡ true
  unfolding node
  rows-passable = all_of-every is_passable base no_node (λ r i. pass (node base r) (input-passable base (length pool) r (a.row r i)))

  standing-start : Standing base (record { rows = base; pool = pool })
  standing-start =
      record {
        steady = steady-start table pool a;
        passable = rows-passable;
        core = λ r i. core-refl (node base r);
        added = λ r l k. absurd (omega arith);
      }

  pub standing : Standing base (normal_form base pool)
  unfolding normal_form
  standing = standing-rows base (length base) (record { rows = base; pool = pool }) (le_refl (length base)) standing-start

-- Two lists whose first rows pass two tests alike.
pub any-alike : {A : Type 0} (test other : A → Bool) (d : A) (r : ℕ) (xs ys : List A) → r ≤ length xs → r ≤ length ys → ((i : ℕ) → i < r → test (get_or xs i d) ≡ other (get_or ys i d)) → any_of test (take r xs) ≡ any_of other (take r ys)
any-alike test other d zero xs ys h k e = refl
any-alike test other d (suc r) [] ys h k e = absurd (not-suc-le-zero h)
any-alike test other d (suc r) (x ∷ xs) [] h k e = absurd (not-suc-le-zero k)
any-alike test other d (suc r) (x ∷ xs) (y ∷ ys) h k e =
    let first : test x ≡ other y = e 0 (omega arith) in
    let rest = any-alike test other d r xs ys (le_of_suc-le-suc h) (le_of_suc-le-suc k) (λ i l. e (suc i) (omega arith)) in
    rw (first, rest) refl

pub any_none : {A : Type 0} (test : A → Bool) (d : A) (r : ℕ) (xs : List A) → r ≤ length xs → ((i : ℕ) → i < r → test (get_or xs i d) ≡ false) → any_of test (take r xs) ≡ false
any_none test d zero xs h e = refl
any_none test d (suc r) [] h e = absurd (not-suc-le-zero h)
any_none test d (suc r) (x ∷ xs) h e =
    let first : test x ≡ false = e 0 (omega arith) in
    let rest = any_none test d r xs (le_of_suc-le-suc h) (λ i l. e (suc i) (omega arith)) in
    rw (first, rest) refl

-- Refusals 2 and 7 read no more of a row than what names it.
double-core : {n n' m m' : Node} → SameCore n n' → SameCore m m' → is_double n' m' ≡ is_double n m
unfolding is_double
double-core c d = rw (c.type, c.parent, c.local, c.uri, d.type, d.parent, d.local, d.uri) refl

module _ (base rows : List Node) (long : length base ≤ length rows) (core : (r : ℕ) → r < length base → SameCore (node base r) (node rows r))
    (r : ℕ) (i : r < length base) where
  core_at : (k : ℕ) → k < length base → SameCore (get_or base k no_node) (get_or rows k no_node)
  unfolding node
  core_at k l = core k l

  allowed-alike : (parent : ℕ) (rule : Option ParentRule) → parent_allowed rows r parent rule ≡ parent_allowed base r parent rule
  unfolding parent_allowed
  allowed-alike parent none = refl
  allowed-alike parent (some rule) =
      by_cases (ltb parent r)
      (λ q. let p = ltb-true parent r q in rw (core parent (omega arith)).type refl)
      (λ q. rw q refl)

  second_alike : (few : length rows ≤ NONE) → ((node base r).parent ≡ NONE) ⊎ ((node base r).parent < r) → second_element rows r ≡ second_element base r
  unfolding second_element
  second_alike few falls =
      let c = core r i in
      let above = go falls in
      let earlier =
      any-alike (λ (n : Node). is_element n.type && eqb n.parent (node base r).parent) (λ (n : Node). is_element n.type && eqb n.parent (node base r).parent) no_node r rows base (omega arith) (omega arith)
      (λ k l. alike k (omega arith))
      in
      rw (c.type, c.parent, above, earlier) refl
    where
      go : ((node base r).parent ≡ NONE) ⊎ ((node base r).parent < r) → (node rows (node base r).parent).type ≡ (node base (node base r).parent).type
      go (inl z) = rw z (ap (λ (n : Node). n.type) (no_row rows NONE few ∙ sym (no_row base NONE (le_trans long few))))
      go (inr p) = (core (node base r).parent (omega arith)).type

      alike : (k : ℕ) → k < length base → (is_element (get_or rows k no_node).type && eqb (get_or rows k no_node).parent (node base r).parent) ≡ (is_element (get_or base k no_node).type && eqb (get_or base k no_node).parent (node base r).parent)
      alike k l = let c = core_at k l in rw (c.type, c.parent) refl

  structure-alike : length rows ≤ NONE → bad_structure base r ≡ false → bad_structure rows r ≡ false
  unfolding bad_structure
  structure-alike few e =
      let c = core r i in
      let second = second_alike few (structure-falls base r e) in
      let allowed = allowed-alike (node base r).parent (parent_rule (node base r).type) in
      rw (c.type, c.parent, allowed, second) e

  double-alike : any_of (is_double (node base r)) (take r base) ≡ false → any_of (is_double (node rows r)) (take r rows) ≡ false
  double-alike e =
      any-alike (is_double (node rows r)) (is_double (node base r)) no_node r rows base (omega arith) (omega arith)
      (λ k l. double-core (core r i) (core_at k (omega arith)))
      ∙ e

-- A row beyond the table's.
module _ (rows : List Node) (r parent : ℕ) (i : r < length rows) (few : length rows ≤ NONE) (type : (node rows r).type ≡ DECLARATION) (owned : (node rows r).parent ≡ parent)
    (before : parent < r) (element : (node rows parent).type ≡ ELEMENT) where
  new-structure : bad_structure rows r ≡ false
  unfolding bad_structure parent_rule parent_allowed second_element
  new-structure = rw (type, owned, ne_eqb parent NONE (omega arith), lt-ltb parent r before, element) refl

  new-double : Unique rows → any_of (is_double (node rows r)) (take r rows) ≡ false
  unfolding is_double node
  new-double u =
      any_none (is_double (node rows r)) no_node r rows (omega arith)
      (λ k l.
      by_cases (is_double (node rows r) (node rows k))
      (λ q.
      let a = both_true _ _ q in
      let b = both_true _ _ a.0 in
      let c = both_true _ _ b.0 in
      let d = both_true _ _ c.0 in
      let own : is_own_declaration parent (node rows r).local.bytes (node rows r) ≡ true =
      true-both (true-both (eq-eqb (node rows r).type DECLARATION type) (eq-eqb (node rows r).parent parent owned)) (same_bytes-refl (node rows r).local.bytes)
      in
      let other : is_own_declaration parent (node rows r).local.bytes (node rows k) ≡ true =
      true-both (true-both (eq-eqb (node rows k).type DECLARATION (eqb-true (node rows k).type (node rows r).type c.1 ∙ type)) (eq-eqb (node rows k).parent parent (eqb-true (node rows k).parent (node rows r).parent d.0 ∙ owned))) b.1
      in
      let same = u.same k r parent (node rows r).local.bytes (omega arith) i other own in
      absurd (omega arith))
      (λ q. q))

fits-at : (pool : List ℕ) (ns : List Node) (r : ℕ) → all_of (fits_in pool) ns ≡ true → r < length ns → fits_in pool (node ns r) ≡ true
unfolding node
fits-at pool ns r h i = all_of-get_or (fits_in pool) ns no_node r h i

-- What is not refused for its room.
room-left : (table_size pool_size : ℕ) (s : State) → room_refusal table_size pool_size s ≡ none → (length s.rows ≤ MOST_ROWS) × (length s.pool ≤ MOST_BYTES)
unfolding room_refusal too_many_rows too_many_bytes
room-left table_size pool_size s e =
    let o = all_none (refused_if (ltb MOST_ROWS (length s.rows) || ltb (table_size / WIDTH) (length s.rows)) Refusal.RowRoom ∷ refused_if (ltb MOST_BYTES (length s.pool) || ltb pool_size (length s.pool)) Refusal.PoolRoom ∷ []) e in (
      ltb-false MOST_ROWS (length s.rows) (both_false _ _ (not-refused _ _ o.0)).0,
      ltb-false MOST_BYTES (length s.pool) (both_false _ _ (not-refused _ _ o.1.0)).0,
    )

-- The finished result, of a table that is accepted, within the limits.
module _ (table pool : List ℕ) (a : Accepted table pool) where
  abbrev made : State
  made = normal_form (nodes table pool) pool

  module _ (few_rows : length made.rows ≤ MOST_ROWS) (few_bytes : length made.pool ≤ MOST_BYTES) where
    made_row : (r : ℕ) → r < length made.rows → RowAccepted made.rows (length made.pool) r
    made_row r i =
        let h = standing table pool a in
        let n = node made.rows r in
        let p = passable-node made.rows r h.passable i in
        let inside = fits-inside made.pool n (fits-row h.steady.fit) in
        let shape = go (ltb r (length (nodes table pool))) refl in
        record {
          structure = shape.0;
          fields = fields-passed made.pool r n inside p;
          encodings = encodings-passed made.pool r n inside p;
          names = p.names;
          namespace = p.namespace;
          declaration = p.declaration;
          double = shape.1;
        }
      where
        fits-row : all_of (fits_in made.pool) made.rows ≡ true → fits_in made.pool (node made.rows r) ≡ true
        fits-row f = fits-at made.pool made.rows r f i

        go : (t : Bool) → ltb r (length (nodes table pool)) ≡ t → (bad_structure made.rows r ≡ false) × (any_of (is_double (node made.rows r)) (take r made.rows) ≡ false)
        go true e =
            let h = standing table pool a in
            let k = ltb-true r (length (nodes table pool)) e in
            let given = a.row r k in (
              structure-alike (nodes table pool) made.rows h.steady.long h.core r k (omega arith) given.structure,
              double-alike (nodes table pool) made.rows h.steady.long h.core r k given.double,
            )
        go false e =
            let h = standing table pool a in
            let k = ltb-false r (length (nodes table pool)) e in
            let o = h.added r k i in
            let parent = (node made.rows r).parent in
            let before : parent < r = omega (arith, o.1) in
            let element = (h.core parent o.1).type ∙ o.2 in (
              new-structure made.rows r parent i (omega arith) o.0 refl before element,
              new-double made.rows r parent i (omega arith) o.0 refl before element h.steady.unique,
            )

    made-size : bad_size (words made.rows) made.pool ≡ false
    unfolding bad_size
    made-size =
        let whole : length (words made.rows) % WIDTH ≡ 0 = rw length-words (omega arith) in
        let table-bound : length (words made.rows) ≤ WIDTH * MOST_ROWS = rw length-words (omega arith) in
        rw (whole, le-ltb (WIDTH * MOST_ROWS) (length (words made.rows)) table-bound, le-ltb MOST_BYTES (length made.pool) few_bytes) refl

    made-passes : check_refusal (words made.rows) made.pool ≡ none
    made-passes =
        let back = rows_back made.pool made.rows (standing table pool a).steady.fit in
        let count : row_count (words made.rows) ≡ length made.rows = rw length-words (omega arith) in
        accept (words made.rows) made.pool made-size (λ r i. rw back (made_row r (rw count at i)))

pub passes-again : PassesAgain
unfolding success filled_rows filled_bytes padded checked
passes-again table pool table_size pool_size t =
    let s = succeeds table pool table_size pool_size t in
    let made = normal_form (nodes table pool) pool in
    let few = room-left table_size pool_size made s.room in
    let passes = made-passes table pool (unrefused table pool s.accepted) few.0 few.1 in
    rw (s.outcome, take_at (words made.rows) (replicate (table_size - length (words made.rows)) 0) (WIDTH * length made.rows) (length-words made.rows), take_at made.pool (replicate (pool_size - length made.pool) 0) (length made.pool) refl, passes)
    refl
