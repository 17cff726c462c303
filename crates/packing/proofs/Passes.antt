-- A packed table passes the check: it has the types, parents and bytes of the input, and every field lies in the packed pool.
-- Assumes nothing.
use Prim.Native.Nat.{ℕ, suc, ◌+◌, ◌*◌, ◌-◌, ◌/◌, ◌%◌, ◌≤◌, ◌<◌}
use mathlib.Core.Path.{◌≡◌, refl, sym, ◌∙◌, ap, subst}
use mathlib.Core.Bool.{true, false, ◌&&◌, ◌||◌}
use mathlib.Core.List.{List, [], ◌∷◌, ◌++◌, map}
use mathlib.Core.Option.{Option, none, some}
use native.Mathlib.Omega.{arith}
use lib.ListN.{length, take, replicate, length-map}
use lib.Seq.{take_at}
use lib.Dec.{T, eqb, ltb, leb}
use borrow.Author.Tests.{eqb-true, ne_eqb, ltb-true, ltb-false, le-ltb}
use Rattle.rules.specs.Lists.{any_of, all_of, is_empty, same_bytes}
use Rattle.rules.specs.Table.{WIDTH, MOST_ROWS, MOST_BYTES, PREFIX, LOCAL_NAME, URI, VALUE, part, Field, Node, no_node, worded_fields, nodes, words, node, row_count, is_element, ParentRule}
use Rattle.rules.specs.Answers.{filled_rows, filled_bytes}
use Rattle.rules.specs.Refusals.{refused_if, bad_size, parent_rule, parent_allowed, second_element, bad_structure, must_be_empty, offset_without_length, full_but_must_be_empty, place_refusal, length_refusal, fields_refusal, encodings_refusal, bad_names, bad_namespace, bad_declaration, is_double, check_refusal, checked}
use Rattle.rules.specs.Outputs.{padded}
use Rattle.rules.specs.Normalization.{State, success, too_many_rows, too_many_bytes, room_refusal}
use Rattle.rules.specs.Demands.{succeeded, result_table, result_pool}
use Rattle.rules.specs.declared.Refusal.{Refusal}
use Rattle.rules.proofs.Lists.{by_cases, both_true, both_false, true-not-false, same_bytes-equal}
use Rattle.rules.proofs.Table.{no_row, length-words}
use Rattle.rules.proofs.Refusals.{not-refused, all_none}
use Rattle.rules.proofs.Accepted.{RowAccepted, Accepted, unrefused}
use Rattle.rules.proofs.Scope.{node-map}
use Rattle.rules.proofs.Result.{in_pool, fits_in, Inside, fits-inside, rows_back, input-pool}
use Rattle.rules.proofs.Again.{accept, any-alike}
use Rattle.rules.proofs.Lists.{all_of-get_or}
use Rattle.packing.specs.Packing.{entries, joined, packed_field, packed_node, packed_form, packed}
use Rattle.packing.specs.Demands.{PackedPasses, PacksOnce}
use Rattle.packing.proofs.Packed.{bytes-kept, form-fits, packs, packs-again}

full-long : (bytes : List ℕ) → is_empty bytes ≡ false → eqb (length bytes) 0 ≡ false
full-long [] e = absurd (true-not-false refl e)
full-long (b ∷ bs) e = ne_eqb (suc (length bs)) 0 (λ z. omega arith)

module _ (names : List (List ℕ)) (f : Field) where
  no-offset : offset_without_length (packed_field names f) ≡ false
  unfolding packed_field
  no-offset = by_cases (is_empty f.bytes) (λ q. rw q refl) (λ q. rw (q, full-long f.bytes q) refl)

  -- a field that must be empty stays so
  stays-empty : (type word : ℕ) (pool : List ℕ) → in_pool pool f ≡ true → full_but_must_be_empty type word f ≡ false → full_but_must_be_empty type word (packed_field names f) ≡ false
  unfolding packed_field in_pool
  stays-empty type word pool fits e =
      by_cases (is_empty f.bytes)
      (λ q. rw q (by_cases (must_be_empty type word) (λ m. rw m refl) (λ m. rw m refl)))
      (λ q.
      by_cases (eqb f.size 0)
      (λ z.
      let same = same_bytes-equal f.bytes (part pool f.offset f.size) (both_true (leb (f.offset + f.size) (length pool)) (same_bytes f.bytes (part pool f.offset f.size)) fits).1 in
      let nothing : f.bytes ≡ [] = same ∙ ap (λ (k : ℕ). part pool f.offset k) (eqb-true f.size 0 z) in
      absurd (true-not-false (ap is_empty nothing) q))
      (λ z. rw (q, full-long f.bytes q) (rw z at e)))

module _ (names : List (List ℕ)) (n : Node) where
  encodings-same : (r : ℕ) → encodings_refusal r (packed_node names n) ≡ encodings_refusal r n
  unfolding encodings_refusal packed_node
  encodings-same r = rw (bytes-kept names n.prefix, bytes-kept names n.local, bytes-kept names n.uri, bytes-kept names n.value) refl

  names_same : bad_names (packed_node names n) ≡ bad_names n
  unfolding bad_names packed_node
  names_same = rw (bytes-kept names n.prefix, bytes-kept names n.local) refl

  namespace-same : bad_namespace (packed_node names n) ≡ bad_namespace n
  unfolding bad_namespace packed_node
  namespace-same = rw (bytes-kept names n.prefix, bytes-kept names n.local, bytes-kept names n.uri) refl

  declaration-same : bad_declaration (packed_node names n) ≡ bad_declaration n
  unfolding bad_declaration packed_node
  declaration-same = rw (bytes-kept names n.local, bytes-kept names n.value) refl

  double-same : (m : Node) → is_double (packed_node names n) (packed_node names m) ≡ is_double n m
  unfolding is_double packed_node
  double-same m = rw (bytes-kept names n.local, bytes-kept names n.uri, bytes-kept names m.local, bytes-kept names m.uri) refl

  fields-pass : (pool : List ℕ) (pool_length r : ℕ) → fits_in pool n ≡ true → fields_refusal pool_length r n ≡ none → Inside (joined names) (packed_node names n) → fields_refusal (length (joined names)) r (packed_node names n) ≡ none
  unfolding fields_refusal packed_node fits_in
  fields-pass pool pool_length r fits e i =
      let p = both_true _ _ fits in
      let l = both_true _ _ p.1 in
      let u = both_true _ _ l.1 in
      let each = all_none (map (place_refusal pool_length r) (worded_fields n) ++ map (length_refusal n.type r) (worded_fields n)) e in
      let place : (word : ℕ) (f : Field) → (packed_field names f).offset + (packed_field names f).size ≤ length (joined names) → place_refusal (length (joined names)) r (word, packed_field names f) ≡ none =
      λ word f h. rw (le-ltb (length (joined names)) ((packed_field names f).offset + (packed_field names f).size) h, no-offset names f) refl
      in
      rw (place PREFIX n.prefix i.prefix, place LOCAL_NAME n.local i.local, place URI n.uri i.uri, place VALUE n.value i.value, stays-empty names n.prefix n.type PREFIX pool p.0 (not-refused _ _ each.1.1.1.1.0), stays-empty names n.local n.type LOCAL_NAME pool l.0 (not-refused _ _ each.1.1.1.1.1.0), stays-empty names n.uri n.type URI pool u.0 (not-refused _ _ each.1.1.1.1.1.1.0), stays-empty names n.value n.type VALUE pool u.1 (not-refused _ _ each.1.1.1.1.1.1.1.0))
      refl

-- Types and parents of all rows are the input's.
module _ (names : List (List ℕ)) (ns : List Node) where
  abbrev ms : List Node
  ms = map (packed_node names) ns

  as_long : length ms ≡ length ns
  as_long = length-map ns (packed_node names)

  at : (r : ℕ) → r < length ns → node ms r ≡ packed_node names (node ns r)
  at r i = node-map (packed_node names) ns r i

  type_at : (r : ℕ) → (node ms r).type ≡ (node ns r).type
  unfolding packed_node
  type_at r =
      by_cases (ltb r (length ns))
      (λ q. ap (λ (n : Node). n.type) (at r (ltb-true r (length ns) q)))
      (λ q.
      let past = ltb-false r (length ns) q in
      ap (λ (n : Node). n.type) (no_row ms r (rw as_long past) ∙ sym (no_row ns r past)))

  parent-at : (r : ℕ) → r < length ns → (node ms r).parent ≡ (node ns r).parent
  unfolding packed_node
  parent-at r i = ap (λ (n : Node). n.parent) (at r i)

  allowed_same : (r parent : ℕ) (rule : Option ParentRule) → parent_allowed ms r parent rule ≡ parent_allowed ns r parent rule
  unfolding parent_allowed
  allowed_same r parent none = refl
  allowed_same r parent (some rule) = rw (type_at parent) refl

  second-same : (r : ℕ) → r < length ns → second_element ms r ≡ second_element ns r
  unfolding second_element node
  second-same r i =
      let earlier =
      any-alike (λ (n : Node). is_element n.type && eqb n.parent (node ns r).parent) (λ (n : Node). is_element n.type && eqb n.parent (node ns r).parent) no_node r ms ns (rw as_long (omega arith)) (omega arith)
      (λ k l. rw (type_at k, parent-at k (omega arith)) refl)
      in
      rw (type_at r, parent-at r i, type_at (node ns r).parent, earlier) refl

  structure-same : (r : ℕ) → r < length ns → bad_structure ms r ≡ bad_structure ns r
  unfolding bad_structure
  structure-same r i = rw (type_at r, parent-at r i, allowed_same r (node ns r).parent (parent_rule (node ns r).type), second-same r i) refl

  doubles-same : (r : ℕ) → r < length ns → any_of (is_double (node ms r)) (take r ms) ≡ any_of (is_double (node ns r)) (take r ns)
  unfolding node
  doubles-same r i =
      any-alike (is_double (node ms r)) (is_double (node ns r)) no_node r ms ns (rw as_long (omega arith)) (omega arith)
      (λ k l. rw (at r i, at k (omega arith)) (double-same names (node ns r) (node ns k)))

-- The packed form of an accepted table, within the limits.
module _ (table pool : List ℕ) (a : Accepted table pool) where
  abbrev ns : List Node
  ns = nodes table pool

  abbrev form : State
  form = packed_form ns

  fits-at : (pool : List ℕ) (l : List Node) (r : ℕ) → all_of (fits_in pool) l ≡ true → r < length l → fits_in pool (node l r) ≡ true
  unfolding node
  fits-at pool l r h i = all_of-get_or (fits_in pool) l no_node r h i

  form-row : (r : ℕ) → r < length ns → RowAccepted form.rows (length form.pool) r
  unfolding packed_form
  form-row r i =
      let names = entries ns in
      let given = a.row r i in
      let here = at names ns r i in
      let inside : Inside (joined names) (packed_node names (node ns r)) =
      fits-inside (joined names) (packed_node names (node ns r))
      (subst (λ (n : Node). fits_in (joined names) n ≡ true) here (fits-at (joined names) (map (packed_node names) ns) r (form-fits ns) (rw (as_long names ns) i)))
      in
      record {
        structure = structure-same names ns r i ∙ given.structure;
        fields = subst (λ (n : Node). fields_refusal (length (joined names)) r n ≡ none) (sym here) (fields-pass names (node ns r) pool (length pool) r (fits-at pool ns r (input-pool table pool a) i) given.fields inside);
        encodings = subst (λ (n : Node). encodings_refusal r n ≡ none) (sym here) (encodings-same names (node ns r) r ∙ given.encodings);
        names = subst (λ (n : Node). bad_names n ≡ false) (sym here) (names_same names (node ns r) ∙ given.names);
        namespace = subst (λ (n : Node). bad_namespace n ≡ false) (sym here) (namespace-same names (node ns r) ∙ given.namespace);
        declaration = subst (λ (n : Node). bad_declaration n ≡ false) (sym here) (declaration-same names (node ns r) ∙ given.declaration);
        double = doubles-same names ns r i ∙ given.double;
      }

  form-count : length form.rows ≡ length ns
  unfolding packed_form
  form-count = as_long (entries ns) ns

  module _ (few_rows : length form.rows ≤ MOST_ROWS) (few_bytes : length form.pool ≤ MOST_BYTES) where
    form-size : bad_size (words form.rows) form.pool ≡ false
    unfolding bad_size
    form-size =
        let whole : length (words form.rows) % WIDTH ≡ 0 = rw length-words (omega arith) in
        let table-bound : length (words form.rows) ≤ WIDTH * MOST_ROWS = rw length-words (omega arith) in
        rw (whole, le-ltb (WIDTH * MOST_ROWS) (length (words form.rows)) table-bound, le-ltb MOST_BYTES (length form.pool) few_bytes) refl

    form-passes : check_refusal (words form.rows) form.pool ≡ none
    form-passes =
        let back = rows_back form.pool form.rows (form-fits ns) in
        let count : row_count (words form.rows) ≡ length form.rows = rw length-words (omega arith) in
        accept (words form.rows) form.pool form-size (λ r i. rw back (form-row r (rw (count ∙ form-count) at i)))

room-left : (table_size pool_size : ℕ) (s : State) → room_refusal table_size pool_size s ≡ none → (length s.rows ≤ MOST_ROWS) × (length s.pool ≤ MOST_BYTES)
unfolding room_refusal too_many_rows too_many_bytes
room-left table_size pool_size s e =
    let o = all_none (refused_if (ltb MOST_ROWS (length s.rows) || ltb (table_size / WIDTH) (length s.rows)) Refusal.RowRoom ∷ refused_if (ltb MOST_BYTES (length s.pool) || ltb pool_size (length s.pool)) Refusal.PoolRoom ∷ []) e in (
      ltb-false MOST_ROWS (length s.rows) (both_false _ _ (not-refused _ _ o.0)).0,
      ltb-false MOST_BYTES (length s.pool) (both_false _ _ (not-refused _ _ o.1.0)).0,
    )

result-passes : (table pool : List ℕ) (table_size pool_size : ℕ) → T (succeeded (packed table pool table_size pool_size)) → check_refusal (result_table (packed table pool table_size pool_size)) (result_pool (packed table pool table_size pool_size)) ≡ none
unfolding success filled_rows filled_bytes padded
result-passes table pool table_size pool_size t =
    let p = packs table pool table_size pool_size t in
    let form = packed_form (nodes table pool) in
    let few = room-left table_size pool_size form p.room in
    rw (p.outcome, take_at (words form.rows) (replicate (table_size - length (words form.rows)) 0) (WIDTH * length form.rows) (length-words form.rows), take_at form.pool (replicate (pool_size - length form.pool) 0) (length form.pool) refl)
    (form-passes table pool (unrefused table pool p.accepted) few.0 few.1)

pub packed-passes : PackedPasses
unfolding checked
packed-passes table pool table_size pool_size t = rw (result-passes table pool table_size pool_size t) refl

pub packs-once : PacksOnce
packs-once table pool table_size pool_size t = packs-again table pool table_size pool_size t (result-passes table pool table_size pool_size t)
