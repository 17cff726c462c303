-- The rows that normalization makes lie in its pool, so the output buffers give them back; and what success tells of the input.
-- Assumes nothing.
use Prim.Native.Nat.{ℕ, zero, suc, ◌+◌, ◌-◌, ◌*◌, ◌≤◌, ◌<◌}
use mathlib.Core.Path.{◌≡◌, refl, sym, ◌∙◌, ap, subst}
use mathlib.Core.Bool.{Bool, true, false, ◌&&◌, not}
use mathlib.Core.List.{List, [], ◌∷◌, ◌++◌}
use mathlib.Core.Option.{Option, none, some}
use native.Mathlib.Nat.{le_refl, le_trans, lt_of_lt_of_le}
use native.Mathlib.Omega.{arith}
use lib.ListN.{length, get_or, take, drop, set, replicate, length-append, length-drop, length-map, length-set}
use lib.Seq.{take-append-le, drop-append-le, drop-append_seam, take-length, take_at, ext_get_or}
use lib.Dec.{T, eqb, leb, leb-zero}
use borrow.Author.Tests.{leb-true, le-leb}
use Rattle.rules.specs.Lists.{any_of, all_of, same_bytes, is_empty}
use Rattle.rules.specs.Table.{WIDTH, PREFIX, LOCAL_NAME, URI, VALUE, ELEMENT, Field, no_field, part, Node, no_node, word, field_at, node_at, row_count, nodes, words, node}
use Rattle.rules.specs.Answers.{number_of, filled_number, filled_rows, filled_bytes}
use Rattle.rules.specs.Refusals.{first_refusal, unless_refused, check_refusal}
use Rattle.rules.proofs.Refusals.{all_none}
use Rattle.rules.specs.Lookups.{elements_from, is_declaration_of, own_declarations, scope_of, scope_at, Binding, declared, built_in_xml, built_in_xmlns, unbound, in_scope_uri, uri_bytes, serves, in_scope_prefix}
use Rattle.rules.specs.Outputs.{padded, refusal}
use Rattle.rules.specs.Normalization.{State, new_declaration, with_prefix, is_own_declaration, revalued, declare, repair_element, Repair, keep, take_declared, take_built_in, declare_own, make_numbered, repair_by_declaring, repair_by, repair_of, new_bytes, new_prefix, new_rows, perform, is_attribute_of, repair_attribute, repair_attributes, normalize_row, normalize_rows, normal_form, success, level1_refusal, room_refusal, normalization_refusal, normalized}
use Rattle.rules.specs.Demands.{succeeded, result_rows}
use Rattle.rules.specs.declared.Refusal.{Refusal}
use Rattle.rules.proofs.Lists.{by_cases, both_true, true-both, T_true, true-not-false, same_bytes-equal, same_bytes-refl, equal-same_bytes, all_of-append, all_of-filtered, all_of-gathered, all_of-weaken, all_of-get_or, all_of-every, all_of-set, all_of-map, all_of-first_that}
use Rattle.rules.proofs.Table.{length-nodes, node-nodes, length-words, node-words}
use Rattle.rules.proofs.Accepted.{Accepted, FieldAccepted, fields-accepted}
use Rattle.rules.proofs.Repairs.{declared-by}

-- The field's bytes are those of the pool where it says.
unfoldable pub in_pool : List ℕ → Field → Bool
in_pool pool f = leb (f.offset + f.size) (length pool) && same_bytes f.bytes (part pool f.offset f.size)

unfoldable pub fits_in : List ℕ → Node → Bool
fits_in pool n = in_pool pool n.prefix && (in_pool pool n.local && (in_pool pool n.uri && in_pool pool n.value))

record Fits (pool : List ℕ) (n : Node) : Type 0 where
  prefix : in_pool pool n.prefix ≡ true
  local : in_pool pool n.local ≡ true
  uri : in_pool pool n.uri ≡ true
  value : in_pool pool n.value ≡ true

fits : (pool : List ℕ) (n : Node) → fits_in pool n ≡ true → Fits pool n
unfolding fits_in
fits pool n e =
    let p = both_true _ _ e in
    let l = both_true _ _ p.1 in
    let u = both_true _ _ l.1 in
    record { prefix = p.0; local = l.0; uri = u.0; value = u.1 }

fit : (pool : List ℕ) (n : Node) → Fits pool n → fits_in pool n ≡ true
unfolding fits_in
fit pool n f = true-both f.prefix (true-both f.local (true-both f.uri f.value))

-- The fields of a row that fits end in the pool.
pub record Inside (pool : List ℕ) (n : Node) : Type 0 where
  pub prefix : n.prefix.offset + n.prefix.size ≤ length pool
  pub local : n.local.offset + n.local.size ≤ length pool
  pub uri : n.uri.offset + n.uri.size ≤ length pool
  pub value : n.value.offset + n.value.size ≤ length pool

in-pool-end : (pool : List ℕ) (f : Field) → in_pool pool f ≡ true → f.offset + f.size ≤ length pool
unfolding in_pool
in-pool-end pool f e = leb-true (f.offset + f.size) (length pool) (both_true _ _ e).0

pub fits-inside : (pool : List ℕ) (n : Node) → fits_in pool n ≡ true → Inside pool n
fits-inside pool n e =
    let f = fits pool n e in
    record {
      prefix = in-pool-end pool n.prefix f.prefix;
      local = in-pool-end pool n.local f.local;
      uri = in-pool-end pool n.uri f.uri;
      value = in-pool-end pool n.value f.value;
    }

in-pool-grown : (pool more : List ℕ) (f : Field) → in_pool pool f ≡ true → in_pool (pool ++ more) f ≡ true
unfolding in_pool
in-pool-grown pool more f e =
    let both = both_true (leb (f.offset + f.size) (length pool)) (same_bytes f.bytes (part pool f.offset f.size)) e in
    let h = leb-true (f.offset + f.size) (length pool) both.0 in
    let same : part (pool ++ more) f.offset f.size ≡ part pool f.offset f.size =
    ap (take f.size) (drop-append-le f.offset pool more (omega arith))
    ∙ take-append-le f.size (drop f.offset pool) more (rw length-drop (omega arith))
    in
    true-both (le-leb (f.offset + f.size) (length (pool ++ more)) (rw length-append (omega arith))) (rw same both.1)

fits-grown : (pool more : List ℕ) (n : Node) → fits_in pool n ≡ true → fits_in (pool ++ more) n ≡ true
fits-grown pool more n e =
    let f = fits pool n e in
    fit (pool ++ more) n
    (record {
      prefix = in-pool-grown pool more n.prefix f.prefix;
      local = in-pool-grown pool more n.local f.local;
      uri = in-pool-grown pool more n.uri f.uri;
      value = in-pool-grown pool more n.value f.value;
    })

in-pool-new : (pool bytes : List ℕ) → in_pool (pool ++ bytes) (record { offset = length pool; size = length bytes; bytes = bytes }) ≡ true
unfolding in_pool
in-pool-new pool bytes =
    true-both (le-leb (length pool + length bytes) (length (pool ++ bytes)) (rw length-append (le_refl (length pool + length bytes))))
    (equal-same_bytes (sym (ap (take (length bytes)) (drop-append_seam pool bytes) ∙ take-length bytes)))

in-pool-none : (pool : List ℕ) → in_pool pool no_field ≡ true
unfolding in_pool
in-pool-none pool = true-both (leb-zero (length pool)) refl

fits-scope : (pool : List ℕ) (ns : List Node) (e : ℕ) → all_of (fits_in pool) ns ≡ true → all_of (fits_in pool) (scope_at ns e) ≡ true
unfolding scope_at scope_of own_declarations
fits-scope pool ns e h = all_of-gathered (fits_in pool) (own_declarations ns) (λ x. all_of-filtered (fits_in pool) (is_declaration_of x) ns h) (elements_from ns e)

fits-node : (pool : List ℕ) (ns : List Node) (r : ℕ) → all_of (fits_in pool) ns ≡ true → r < length ns → Fits pool (node ns r)
unfolding node
fits-node pool ns r h i = fits pool (get_or ns r no_node) (all_of-get_or (fits_in pool) ns no_node r h i)

fits-declare : (pool : List ℕ) (e maker : ℕ) (prefix uri : Field) (ns : List Node) → in_pool pool prefix ≡ true → in_pool pool uri ≡ true → all_of (fits_in pool) ns ≡ true → all_of (fits_in pool) (declare e maker prefix uri ns) ≡ true
unfolding declare
fits-declare pool e maker prefix uri ns p u h =
    by_cases (any_of (is_own_declaration e prefix.bytes) ns)
    (λ q.
    rw q
    (all_of-map (fits_in pool) (revalued e prefix.bytes uri) ns
    (λ n t.
    let f = fits pool n t in
    by_cases (is_own_declaration e prefix.bytes n)
    (λ s. rw s (fit pool _ (record { prefix = f.prefix; local = f.local; uri = f.uri; value = u })))
    (λ s. rw s t))
    h))
    (λ q.
    rw q
    (all_of-append (fits_in pool) ns (new_declaration e maker prefix uri ∷ []) h
    (true-both (fit pool (new_declaration e maker prefix uri) (record { prefix = in-pool-none pool; local = p; uri = in-pool-none pool; value = u })) refl)))

pub fits-element : (pool : List ℕ) (e : ℕ) (ns : List Node) → e < length ns → all_of (fits_in pool) ns ≡ true → all_of (fits_in pool) (repair_element e ns) ≡ true
unfolding repair_element
fits-element pool e ns i h =
    by_cases (is_empty (node ns e).uri.bytes)
    (λ q.
    by_cases (is_empty (uri_bytes (in_scope_uri (scope_at ns e) [])))
    (λ t. rw (q, t) h)
    (λ t. rw (q, t) (fits-declare pool e (node ns e).maker no_field no_field ns (in-pool-none pool) (in-pool-none pool) h)))
    (λ q.
    by_cases (same_bytes (uri_bytes (in_scope_uri (scope_at ns e) (node ns e).prefix.bytes)) (node ns e).uri.bytes)
    (λ t. rw (q, t) h)
    (λ t. let f = fits-node pool ns e h i in rw (q, t) (fits-declare pool e (node ns e).maker (node ns e).prefix (node ns e).uri ns f.prefix f.uri h)))

-- What a repair takes from a declaration lies in the pool.
abbrev Pooled : List ℕ → Repair → Type 0
Pooled pool keep = Unit {0}
Pooled pool (take_declared found) = in_pool pool found ≡ true
Pooled pool (take_built_in bytes) = Unit {0}
Pooled pool declare_own = Unit {0}
Pooled pool (make_numbered bytes) = Unit {0}

module _ (pool : List ℕ) (scope : List Node) (a : Node) (h : all_of (fits_in pool) scope ≡ true) where
  pooled-declaring : Pooled pool (repair_by_declaring scope a)
  pooled-declaring =
      by_cases (not (is_empty a.prefix.bytes) && is_empty (uri_bytes (in_scope_uri scope a.prefix.bytes))) (λ q. rw q tt) (λ q. rw q tt)

  pooled-binding : (b : Binding) → in_scope_prefix scope a.uri.bytes ≡ b → Pooled pool (repair_by b (repair_by_declaring scope a))
  pooled-binding unbound e = pooled-declaring
  pooled-binding (declared f) e =
      let by = declared-by scope a.uri.bytes f e in
      let f₁ = fits pool by.0 (all_of-first_that (fits_in pool) (serves scope a.uri.bytes) scope h by.1) in
      subst (λ (g : Field). in_pool pool g ≡ true) by.2 f₁.local
  pooled-binding built_in_xml e = tt
  pooled-binding built_in_xmlns e = tt

  pooled : Pooled pool (repair_of scope a)
  unfolding repair_of
  pooled =
      by_cases (is_empty a.uri.bytes)
      (λ u. rw u tt)
      (λ u.
      by_cases (not (is_empty a.prefix.bytes) && same_bytes (uri_bytes (in_scope_uri scope a.prefix.bytes)) a.uri.bytes)
      (λ q. rw (u, q) tt)
      (λ q. rw (u, q) (pooled-binding (in_scope_prefix scope a.uri.bytes) refl)))

pooled-prefix : (pool : List ℕ) (a : Node) (repair : Repair) → Pooled pool repair → in_pool pool a.prefix ≡ true → in_pool (pool ++ new_bytes repair) (new_prefix pool a repair) ≡ true
unfolding new_bytes new_prefix
pooled-prefix pool a keep t h = in-pool-grown pool [] a.prefix h
pooled-prefix pool a (take_declared found) t h = in-pool-grown pool [] found t
pooled-prefix pool a (take_built_in bytes) t h = in-pool-new pool bytes
pooled-prefix pool a declare_own t h = in-pool-grown pool [] a.prefix h
pooled-prefix pool a (make_numbered bytes) t h = in-pool-new pool bytes

fits-new-rows : (pool : List ℕ) (e maker : ℕ) (prefix uri : Field) (repair : Repair) → in_pool pool prefix ≡ true → in_pool pool uri ≡ true → all_of (fits_in pool) (new_rows e maker prefix uri repair) ≡ true
unfolding new_rows
fits-new-rows pool e maker prefix uri keep p u = refl
fits-new-rows pool e maker prefix uri (take_declared found) p u = refl
fits-new-rows pool e maker prefix uri (take_built_in bytes) p u = refl
fits-new-rows pool e maker prefix uri declare_own p u = true-both (fit pool (new_declaration e maker prefix uri) (record { prefix = in-pool-none pool; local = p; uri = in-pool-none pool; value = u })) refl
fits-new-rows pool e maker prefix uri (make_numbered bytes) p u = true-both (fit pool (new_declaration e maker prefix uri) (record { prefix = in-pool-none pool; local = p; uri = in-pool-none pool; value = u })) refl

fits-perform : (e a : ℕ) (repair : Repair) (s : State) → a < length s.rows → Pooled s.pool repair → all_of (fits_in s.pool) s.rows ≡ true → all_of (fits_in (perform e a repair s).pool) (perform e a repair s).rows ≡ true
unfolding perform
fits-perform e a repair s i t h =
    let n = node s.rows a in
    let pool' = s.pool ++ new_bytes repair in
    let after = new_prefix s.pool n repair in
    let f = fits-node s.pool s.rows a h i in
    let g = fits pool' n (fits-grown s.pool (new_bytes repair) n (fit s.pool n f)) in
    let p = pooled-prefix s.pool n repair t f.prefix in
    all_of-append (fits_in pool') (set s.rows a (with_prefix after n)) (new_rows e n.maker after n.uri repair)
    (all_of-set (fits_in pool') s.rows a (with_prefix after n)
    (all_of-weaken (fits_in s.pool) (fits_in pool') (fits-grown s.pool (new_bytes repair)) s.rows h)
    (fit pool' (with_prefix after n) (record { prefix = p; local = g.local; uri = g.uri; value = g.value })))
    (fits-new-rows pool' e n.maker after n.uri repair p g.uri)

-- What the rows and the pool keep throughout.
pub record Pool (total : ℕ) (s : State) : Type 0 where
  pub long : total ≤ length s.rows
  pub fit : all_of (fits_in s.pool) s.rows ≡ true

longer-declare : (e maker : ℕ) (prefix uri : Field) (ns : List Node) → length ns ≤ length (declare e maker prefix uri ns)
unfolding declare
longer-declare e maker prefix uri ns =
    by_cases (any_of (is_own_declaration e prefix.bytes) ns)
    (λ q. rw (q, length-map ns (revalued e prefix.bytes uri)) (le_refl (length ns)))
    (λ q. rw (q, length-append) (omega arith))

pub longer-element : (e : ℕ) (ns : List Node) → length ns ≤ length (repair_element e ns)
unfolding repair_element
longer-element e ns =
    by_cases (is_empty (node ns e).uri.bytes)
    (λ q.
    by_cases (is_empty (uri_bytes (in_scope_uri (scope_at ns e) [])))
    (λ t. rw (q, t) (le_refl (length ns)))
    (λ t. rw (q, t) (longer-declare e (node ns e).maker no_field no_field ns)))
    (λ q.
    by_cases (same_bytes (uri_bytes (in_scope_uri (scope_at ns e) (node ns e).prefix.bytes)) (node ns e).uri.bytes)
    (λ t. rw (q, t) (le_refl (length ns)))
    (λ t. rw (q, t) (longer-declare e (node ns e).maker (node ns e).prefix (node ns e).uri ns)))

pub longer-perform : (e a : ℕ) (repair : Repair) (s : State) → length s.rows ≤ length (perform e a repair s).rows
unfolding perform
longer-perform e a repair s = simp (length-append, length-set) (omega arith)

pub pool-attribute : (total e a : ℕ) (s : State) → a < total → Pool total s → Pool total (repair_attribute e a s)
unfolding repair_attribute
pool-attribute total e a s i h =
    let repair = repair_of (scope_at s.rows e) (node s.rows a) in
    by_cases (is_attribute_of e (node s.rows a))
    (λ q.
    rw q
    (record {
      long = le_trans h.long (longer-perform e a repair s);
      fit = fits-perform e a repair s (lt_of_lt_of_le i h.long) (pooled s.pool (scope_at s.rows e) (node s.rows a) (fits-scope s.pool s.rows e h.fit)) h.fit;
    }))
    (λ q. rw q h)

pool-attributes : (total e count : ℕ) (s : State) → count ≤ total → Pool total s → Pool total (repair_attributes e count s)
unfolding repair_attributes
pool-attributes total e zero s i h = h
pool-attributes total e (suc count) s i h = pool-attribute total e count (repair_attributes e count s) i (pool-attributes total e count s (omega arith) h)

pool-row : (total r : ℕ) (s : State) → r < total → Pool total s → Pool total (normalize_row total r s)
unfolding normalize_row
pool-row total r s i h =
    by_cases (eqb (node s.rows r).type ELEMENT)
    (λ q.
    rw q
    (pool-attributes total r total (record { rows = repair_element r s.rows; pool = s.pool }) (le_refl total)
    (record {
      long = le_trans h.long (longer-element r s.rows);
      fit = fits-element s.pool r s.rows (lt_of_lt_of_le i h.long) h.fit;
    })))
    (λ q. rw q h)

pub pool-rows : (total count : ℕ) (s : State) → count ≤ total → Pool total s → Pool total (normalize_rows total count s)
unfolding normalize_rows
pool-rows total zero s i h = h
pool-rows total (suc count) s i h = pool-row total count (normalize_rows total count s) i (pool-rows total count s (omega arith) h)

-- A row is its words, read over its pool.
module _ (pool : List ℕ) (ns : List Node) (h : all_of (fits_in pool) ns ≡ true) where
  field_back : (f : Field) → in_pool pool f ≡ true → record { offset = f.offset; size = f.size; bytes = part pool f.offset f.size } ≡ f
  unfolding in_pool
  field_back f e =
      let same = same_bytes-equal f.bytes (part pool f.offset f.size) (both_true (leb (f.offset + f.size) (length pool)) (same_bytes f.bytes (part pool f.offset f.size)) e).1 in
      ap (λ (b : List ℕ). record { offset = f.offset; size = f.size; bytes = b }) (sym same)

  row_back : (r : ℕ) → r < length ns → node_at (words ns) pool r ≡ node ns r
  row_back r i =
      let f = fits-node pool ns r h i in
      node-words pool ns r i
      ∙ rw (field_back (node ns r).prefix f.prefix, field_back (node ns r).local f.local, field_back (node ns r).uri f.uri, field_back (node ns r).value f.value) refl

  pub rows_back : nodes (words ns) pool ≡ ns
  unfolding node
  rows_back =
      let count : row_count (words ns) ≡ length ns = rw length-words (omega arith) in
      ext_get_or no_node (nodes (words ns) pool) ns (length-nodes (words ns) pool ∙ count)
      (λ r i.
      let j : r < length ns = subst (λ (n : ℕ). r < n) (length-nodes (words ns) pool ∙ count) i in
      node-nodes (words ns) pool r (subst (λ (n : ℕ). r < n) (length-nodes (words ns) pool) i) ∙ row_back r j)

-- The answered parts of the buffers of a success are its rows.
pub success-rows : (table_size pool_size : ℕ) (s : State) → all_of (fits_in s.pool) s.rows ≡ true → result_rows (success table_size pool_size s) ≡ s.rows
unfolding result_rows success filled_rows filled_bytes padded
success-rows table_size pool_size s h =
    rw (take_at (words s.rows) (replicate (table_size - length (words s.rows)) 0) (WIDTH * length s.rows) (length-words s.rows), take_at s.pool (replicate (pool_size - length s.pool) 0) (length s.pool) refl)
    (rows_back s.pool s.rows h)

-- No refusal has the number 0.
pub refusal-numbered : (x : Refusal) → eqb (number_of x).number 0 ≡ false
unfolding number_of
refusal-numbered Refusal.Size = refl
refusal-numbered (Refusal.Structure r) = refl
refusal-numbered (Refusal.PastPool r w) = refl
refusal-numbered (Refusal.Names r) = refl
refusal-numbered (Refusal.Namespace r) = refl
refusal-numbered (Refusal.Declaration r) = refl
refusal-numbered (Refusal.Double r) = refl
refusal-numbered Refusal.NoSuchRow = refl
refusal-numbered (Refusal.Level1 r) = refl
refusal-numbered Refusal.RowRoom = refl
refusal-numbered Refusal.PoolRoom = refl
refusal-numbered (Refusal.OffsetWithoutLength r w) = refl
refusal-numbered (Refusal.MustBeEmpty r w) = refl
refusal-numbered (Refusal.MalformedUtf8 r w) = refl
refusal-numbered (Refusal.NotMarkup r) = refl
refusal-numbered (Refusal.Character r) = refl
refusal-numbered Refusal.TextRoom = refl
refusal-numbered (Refusal.Undeclared r) = refl
refusal-numbered (Refusal.Inherited r) = refl
refusal-numbered Refusal.Mark = refl
refusal-numbered Refusal.Version = refl
refusal-numbered Refusal.Lengths = refl
refusal-numbered Refusal.BundleRoom = refl
refusal-numbered (Refusal.Original r w) = refl
refusal-numbered (Refusal.Proposal r w) = refl
refusal-numbered (Refusal.ProposalLevel1 r) = refl
refusal-numbered (Refusal.Changed r) = refl
refusal-numbered (Refusal.Unresolved r) = refl

refused-fails : (table_size pool_size : ℕ) (x : Refusal) → succeeded (refusal table_size pool_size x) ≡ false
unfolding succeeded refusal filled_number
refused-fails table_size pool_size x = refusal-numbered x

-- What success tells: the check accepts, no row is of Level 1, and the outcome is the finished result.
pub record Succeeds (table pool : List ℕ) (table_size pool_size : ℕ) : Type 0 where
  pub accepted : check_refusal table pool ≡ none
  pub level2 : level1_refusal (nodes table pool) ≡ none
  pub room : room_refusal table_size pool_size (normal_form (nodes table pool) pool) ≡ none
  pub outcome : normalized table pool table_size pool_size ≡ success table_size pool_size (normal_form (nodes table pool) pool)

pub succeeds : (table pool : List ℕ) (table_size pool_size : ℕ) → T (succeeded (normalized table pool table_size pool_size)) → Succeeds table pool table_size pool_size
unfolding normalized normalization_refusal
succeeds table pool table_size pool_size t =
    let result = normal_form (nodes table pool) pool in
    let tried = check_refusal table pool ∷ level1_refusal (nodes table pool) ∷ room_refusal table_size pool_size result ∷ [] in
    let unrefused = go (first_refusal tried) (T_true _ t) in
    let a = all_none tried unrefused in
    record {
      accepted = a.0;
      level2 = a.1.0;
      room = a.1.1.0;
      outcome = ap (λ (o : Option Refusal). unless_refused o (refusal table_size pool_size) (success table_size pool_size result)) unrefused;
    }
  where
    go : (o : Option Refusal) → succeeded (unless_refused o (refusal table_size pool_size) (success table_size pool_size (normal_form (nodes table pool) pool))) ≡ true → o ≡ none
    go none e = refl
    go (some x) e = absurd (true-not-false e (refused-fails table_size pool_size x))

field-in-pool : (table pool : List ℕ) (r k : ℕ) → FieldAccepted (length pool) (field_at table pool r k) → in_pool pool (field_at table pool r k) ≡ true
unfolding in_pool
field-in-pool table pool r k c =
    true-both (le-leb (word table r k + word table r (k + 1)) (length pool) c.in_pool) (same_bytes-refl (part pool (word table r k) (word table r (k + 1))))

-- The input's rows lie in its pool.
pub input-pool : (table pool : List ℕ) → Accepted table pool → all_of (fits_in pool) (nodes table pool) ≡ true
unfolding node
input-pool table pool a =
    all_of-every (fits_in pool) (nodes table pool) no_node
    (λ r i.
    let f = fields-accepted (nodes table pool) (length pool) r (a.row r i) in
    let same = node-nodes table pool r (subst (λ (n : ℕ). r < n) (length-nodes table pool) i) in
    fit pool (node (nodes table pool) r)
    (rw same
    (record {
      prefix = field-in-pool table pool r PREFIX (subst (λ (n : Node). FieldAccepted (length pool) n.prefix) same f.prefix);
      local = field-in-pool table pool r LOCAL_NAME (subst (λ (n : Node). FieldAccepted (length pool) n.local) same f.local);
      uri = field-in-pool table pool r URI (subst (λ (n : Node). FieldAccepted (length pool) n.uri) same f.uri);
      value = field-in-pool table pool r VALUE (subst (λ (n : Node). FieldAccepted (length pool) n.value) same f.value);
    })))
