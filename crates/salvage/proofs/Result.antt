-- The result of salvage, read from the output buffers, passes the check.
-- Assumes nothing.
use Rattle.std.specs.Prelude.{Ok, Err}
use Prim.Native.Nat.{ℕ, ◌+◌, ◌*◌, ◌-◌, ◌%◌, ◌≤◌, ◌<◌}
use mathlib.Core.Path.{◌≡◌, refl, sym, ◌∙◌, ap, subst}
use mathlib.Core.Bool.{true, false}
use mathlib.Core.List.{List, [], ◌∷◌, ◌++◌, map}
use mathlib.Core.Option.{Option, none, some}
use native.Mathlib.Nat.{le_trans}
use native.Mathlib.Omega.{arith}
use lib.ListN.{length, replicate}
use lib.Seq.{take_at}
use lib.Dec.{T}
use borrow.Author.Tests.{ltb-false, le-ltb, le-leb}
use Rattle.rules.specs.Lists.{all_of}
use Rattle.rules.specs.Table.{WIDTH, MOST_ROWS, MOST_BYTES, PREFIX, LOCAL_NAME, URI, VALUE, Node, no_node, worded_fields, node_at, field_at, nodes, words, node, row_count}
use Rattle.rules.specs.Answers.{salvaged_number, salvaged_rows}
use Rattle.rules.specs.Refusals.{refused_if, first_refusal, unless_refused, bad_size, past_pool, offset_without_length, place_refusal, length_refusal, fields_refusal, faults, check_refusal, checked}
use Rattle.rules.specs.Outputs.{padded}
use Rattle.rules.specs.declared.Refusal.{Refusal}
use Rattle.rules.proofs.Lists.{true-both, T_true, true-not-false, same_bytes-refl, all_of-every}
use Rattle.rules.proofs.Table.{length-nodes, length-words, node-nodes}
use Rattle.rules.proofs.Refusals.{not-refused, all_none, lowest-none}
use Rattle.rules.proofs.Accepted.{Sized, sized, few-rows}
use Rattle.rules.proofs.Result.{in_pool, fits_in, rows_back, refusal-numbered}
use Rattle.rules.proofs.Again.{accept}
use Rattle.dropped_rows.specs.Dropped.{kept}
use Rattle.salvage.specs.Salvage.{with_parent, new_parent, salvaged_nodes, drops, listed, fault_refusal, too_short, salvage_refusal, SalvageOutcome, salvaged}
use Rattle.salvage.specs.Demands.{done, result_table, SalvagePasses}
use Rattle.dropped_rows.proofs.Kept.{few, source}
use Rattle.salvage.proofs.Passes.{Faultless, faultless, rows_long, row_here, here-is}

-- What a table without the refusals 1 to 5 and 12 to 14 is.
module _ (table pool : List ℕ) (e : fault_refusal table pool ≡ none) where
  abbrev ns : List Node
  ns = nodes table pool

  tried : (bad_size table pool ≡ false) × ((r : ℕ) → r < row_count table → first_refusal (faults ns (length pool) r) ≡ none)
  unfolding fault_refusal
  tried =
      let a = all_none (refused_if (bad_size table pool) Refusal.Size ∷ _ ∷ []) e in
      (not-refused (bad_size table pool) Refusal.Size a.0, lowest-none (λ (r : ℕ). first_refusal (faults ns (length pool) r)) (row_count table) a.1.0)

  pub size : Sized table pool
  size = sized table pool tried.0

  pub small : length ns ≤ MOST_ROWS
  small = rw (length-nodes table pool) (few-rows table pool size)

  pub good : (r : ℕ) → r < length ns → Faultless ns (length pool) r
  good r i = faultless ns (length pool) r (tried.1 r (rw (length-nodes table pool) at i))

  -- The fields of its rows lie in the pool.
  field-inside : (r k : ℕ) → place_refusal (length pool) r (k, field_at table pool r k) ≡ none → in_pool pool (field_at table pool r k) ≡ true
  unfolding in_pool
  field-inside r k p =
      let f = field_at table pool r k in
      let a = all_none (refused_if (past_pool (length pool) f) (Refusal.PastPool (record { 0 = r }) k) ∷ refused_if (offset_without_length f) (Refusal.OffsetWithoutLength (record { 0 = r }) k) ∷ []) p in
      true-both
      (le-leb (f.offset + f.size) (length pool) (ltb-false (length pool) (f.offset + f.size) (not-refused (past_pool (length pool) f) (Refusal.PastPool (record { 0 = r }) k) a.0)))
      (same_bytes-refl f.bytes)

  node-inside : (r : ℕ) → r < length ns → fits_in pool (node_at table pool r) ≡ true
  unfolding fits_in fields_refusal
  node-inside r i =
      let n = node_at table pool r in
      let same = node-nodes table pool r (rw (length-nodes table pool) at i) in
      let f : fields_refusal (length pool) r n ≡ none = subst (λ (m : Node). fields_refusal (length pool) r m ≡ none) same (good r i).fields in
      let a = all_none (map (place_refusal (length pool) r) (worded_fields n) ++ map (length_refusal n.type r) (worded_fields n)) f in
      true-both (field-inside r PREFIX a.0) (true-both (field-inside r LOCAL_NAME a.1.0) (true-both (field-inside r URI a.1.1.0) (field-inside r VALUE a.1.1.1.0)))

  moved_inside : (parent : ℕ) (n : Node) → fits_in pool n ≡ true → fits_in pool (with_parent parent n) ≡ true
  unfolding fits_in
  moved_inside parent n h = h

  rows_fit : all_of (fits_in pool) (salvaged_nodes ns) ≡ true
  unfolding node
  rows_fit =
      all_of-every (fits_in pool) (salvaged_nodes ns) no_node
      (λ j h.
      let l : j < length (kept ns (length ns)) = rw (rows_long ns (length pool) small good) at h in
      let s = source ns (length ns) j l in
      let n = node ns s.row in
      let same = node-nodes table pool s.row (subst (λ (k : ℕ). s.row < k) (length-nodes table pool) s.below) in
      subst (λ (m : Node). fits_in pool m ≡ true) (sym (here-is ns (length pool) small good j l))
      (moved_inside (new_parent ns n.parent) n (subst (λ (m : Node). fits_in pool m ≡ true) (sym same) (node-inside s.row s.below))))

  rows_few : length (salvaged_nodes ns) ≤ MOST_ROWS
  rows_few = rw (rows_long ns (length pool) small good) (le_trans (few ns (length ns)) small)

  size-again : bad_size (words (salvaged_nodes ns)) pool ≡ false
  unfolding bad_size
  size-again =
      let rows = salvaged_nodes ns in
      let whole : length (words rows) % WIDTH ≡ 0 = rw length-words (omega arith) in
      let table-bound : length (words rows) ≤ WIDTH * MOST_ROWS = rw length-words (omega (arith, rows_few)) in
      rw (whole, le-ltb (WIDTH * MOST_ROWS) (length (words rows)) table-bound, le-ltb MOST_BYTES (length pool) size.pool_bound) refl

  pub passes : check_refusal (words (salvaged_nodes ns)) pool ≡ none
  passes =
      let rows = salvaged_nodes ns in
      let back = rows_back pool rows rows_fit in
      let count : row_count (words rows) ≡ length rows = rw length-words (omega arith) in
      accept (words rows) pool size-again (λ j i. rw back (row_here ns (length pool) small good j (subst (λ (k : ℕ). j < k) (count ∙ rows_long ns (length pool) small good) i)))

-- What success tells.
module _ (table pool : List ℕ) (table_size list_size : ℕ) where
  abbrev rows : List Node
  rows = salvaged_nodes (nodes table pool)

  abbrev pub refused : Refusal → SalvageOutcome
  refused x = record { answer = Err x; table = replicate table_size 0; list = replicate list_size 0 }

  abbrev pub success : SalvageOutcome
  success =
      record {
        answer = Ok (record { rows = length rows; dropped = length (drops (nodes table pool)) });
        table = padded table_size (words rows);
        list = padded list_size (listed (drops (nodes table pool)));
      }

  pub salvage-refused : (x : Refusal) → fault_refusal table pool ≡ some x → salvaged table pool table_size list_size ≡ refused x
  unfolding salvaged salvage_refusal
  salvage-refused x e = rw e refl

  module _ (e : fault_refusal table pool ≡ none) where
    pub salvage-short : too_short table_size list_size (nodes table pool) ≡ true → salvaged table pool table_size list_size ≡ refused Refusal.RowRoom
    unfolding salvaged salvage_refusal
    salvage-short q = rw (e, q) refl

    pub salvage-fits : too_short table_size list_size (nodes table pool) ≡ false → salvaged table pool table_size list_size ≡ success
    unfolding salvaged salvage_refusal
    salvage-fits q = rw (e, q) refl

  refused-fails : (x : Refusal) → done (refused x) ≡ false
  unfolding done salvaged_number
  refused-fails x = refusal-numbered x

  pub salvages : T (done (salvaged table pool table_size list_size)) → (fault_refusal table pool ≡ none) × (salvaged table pool table_size list_size ≡ success)
  unfolding salvaged salvage_refusal
  salvages t =
      let tried = fault_refusal table pool ∷ refused_if (too_short table_size list_size (nodes table pool)) Refusal.RowRoom ∷ [] in
      let passed = go (first_refusal tried) (T_true _ t) in
      ((all_none tried passed).0, ap (λ (o : Option Refusal). unless_refused o refused success) passed)
    where
      go : (o : Option Refusal) → done (unless_refused o refused success) ≡ true → o ≡ none
      go none e = refl
      go (some x) e = absurd (true-not-false e (refused-fails x))

  -- The answered part of the output table.
  pub result_words : T (done (salvaged table pool table_size list_size)) → result_table (salvaged table pool table_size list_size) ≡ words rows
  unfolding salvaged_rows padded
  result_words t = rw (salvages t).1 (take_at (words rows) (replicate (table_size - length (words rows)) 0) (WIDTH * length rows) (length-words rows))

pub salvage-passes : SalvagePasses
unfolding checked
salvage-passes table pool table_size list_size t =
    rw (result_words table pool table_size list_size t, passes table pool (salvages table pool table_size list_size t).0) refl
