-- Demand 3 of the normalization of a bundle: the bundle that it writes has the rows of the normalized table.
-- Assumes nothing.
use Prim.Native.Nat.{ℕ, ◌-◌, ◌*◌, ◌≤◌}
use mathlib.Core.Path.{◌≡◌, refl, sym, ◌∙◌, ap}
use mathlib.Core.Bool.{true, false}
use mathlib.Core.List.{List, [], ◌∷◌}
use mathlib.Core.Option.{Option, none, some}
use native.Mathlib.Omega.{arith}
use lib.ListN.{length, replicate}
use lib.Seq.{take_at}
use lib.Dec.{T, ltb}
use borrow.Author.Tests.{ltb-false}
use Rattle.rules.specs.Lists.{all_of}
use Rattle.rules.specs.Table.{WIDTH, MOST_ROWS, MOST_BYTES, nodes, words}
use Rattle.rules.specs.Answers.{filled_number, written_number, written_bytes}
use Rattle.rules.specs.Refusals.{refused_if, first_refusal, unless_refused, check_refusal}
use Rattle.rules.specs.Outputs.{padded}
use Rattle.rules.specs.Normalization.{State, normal_form, success, too_many_rows, too_many_bytes, level1_refusal, room_refusal, normalization_refusal, normalized}
use Rattle.rules.specs.Demands.{succeeded, result_rows}
use Rattle.rules.specs.declared.Refusal.{Refusal}
use Rattle.rules.proofs.Lists.{both_false, T_true, true-not-false}
use Rattle.rules.proofs.Refusals.{not-refused, all_none}
use Rattle.rules.proofs.Table.{length-words}
use Rattle.rules.proofs.Accepted.{unrefused}
use Rattle.rules.proofs.Result.{refusal-numbered, rows_back, succeeds}
use Rattle.rules.proofs.Demand3.{result-is, meaning, independence}
use Rattle.little_endian.specs.Numbers.{is_byte, is_word}
use Rattle.bundles.specs.Bundles.{bundle_refusal, bundle_table, bundle_pool}
use Rattle.bundles.specs.Operations.{WriteOutcome, write_refused, write_done, bundle_written, state_bundle, normalized_into, bundle_normalized}
use Rattle.bundles.specs.Inverse.{StandsFor}
use Rattle.bundles.specs.Demands.{bundle_done, result_bundle, bundle_nodes, NormalizedBundle, BundleMeaning, BundleIndependence}
use Rattle.bundles.proofs.Words.{normal-fits, normal-words}
use Rattle.bundles.proofs.Opening.{words-table}
use Rattle.bundles.proofs.Inverse.{Writable, written_is, written_stands}

-- An outcome that is not refused.
refused-not-done : (size : ℕ) (x : Refusal) → bundle_done (write_refused size x) ≡ false
unfolding bundle_done write_refused written_number
refused-not-done size x = refusal-numbered x

pub done-unrefused : (o : Option Refusal) (size : ℕ) (answer : WriteOutcome) → bundle_done (unless_refused o (write_refused size) answer) ≡ true → o ≡ none
done-unrefused none size answer e = refl
done-unrefused (some x) size answer e = absurd (true-not-false e (refused-not-done size x))

-- What a written normalization tells of a table and its pool.
module _ (table pool : List ℕ) (none? : normalization_refusal table pool (WIDTH * MOST_ROWS) MOST_BYTES ≡ none) where
  abbrev pub result : State
  result = normal_form (nodes table pool) pool

  pub normal : normalized table pool (WIDTH * MOST_ROWS) MOST_BYTES ≡ success (WIDTH * MOST_ROWS) MOST_BYTES result
  unfolding normalized
  normal = rw none? refl

  pub success-told : T (succeeded (normalized table pool (WIDTH * MOST_ROWS) MOST_BYTES))
  unfolding succeeded success filled_number
  success-told = rw normal tt

  accepted : check_refusal table pool ≡ none
  accepted = (succeeds table pool (WIDTH * MOST_ROWS) MOST_BYTES success-told).accepted

  room : room_refusal (WIDTH * MOST_ROWS) MOST_BYTES result ≡ none
  unfolding normalization_refusal
  room = (all_none (check_refusal table pool ∷ level1_refusal (nodes table pool) ∷ room_refusal (WIDTH * MOST_ROWS) MOST_BYTES result ∷ []) none?).1.1.0

  pub few-rows : length result.rows ≤ MOST_ROWS
  unfolding room_refusal too_many_rows
  few-rows =
      let a = all_none (refused_if (too_many_rows (WIDTH * MOST_ROWS) result) Refusal.RowRoom ∷ refused_if (too_many_bytes MOST_BYTES result) Refusal.PoolRoom ∷ []) room in
      ltb-false MOST_ROWS (length result.rows) (both_false _ _ (not-refused (too_many_rows (WIDTH * MOST_ROWS) result) Refusal.RowRoom a.0)).0

  pub few_bytes : length result.pool ≤ MOST_BYTES
  unfolding room_refusal too_many_bytes
  few_bytes =
      let a = all_none (refused_if (too_many_rows (WIDTH * MOST_ROWS) result) Refusal.RowRoom ∷ refused_if (too_many_bytes MOST_BYTES result) Refusal.PoolRoom ∷ []) room in
      ltb-false MOST_BYTES (length result.pool) (both_false _ _ (not-refused (too_many_bytes MOST_BYTES result) Refusal.PoolRoom a.1.0)).0

  writable : Writable (words result.rows) result.pool
  writable =
      let long = length-words result.rows in
      let rows = few-rows in
      let bytes = few_bytes in
      record {
        whole = omega arith;
        rows = omega arith;
        pool_small = omega arith;
      }

  pub is-bundle : bundle_refusal (state_bundle result) ≡ none
  unfolding state_bundle
  is-bundle = written_is (words result.rows) result.pool writable

  pub stands : all_of is_word table ≡ true → StandsFor (state_bundle result) (words result.rows) result.pool
  unfolding state_bundle
  stands all = written_stands (words result.rows) result.pool writable (normal-words table pool (unrefused table pool accepted) all few_bytes)

  rows_written : all_of is_word table ≡ true → bundle_nodes (state_bundle result) ≡ result_rows (normalized table pool (WIDTH * MOST_ROWS) MOST_BYTES)
  rows_written all =
      ap (λ (t : List ℕ). nodes t (bundle_pool (state_bundle result))) (stands all).table_read
      ∙ ap (nodes (words result.rows)) (stands all).pool_read
      ∙ rows_back result.pool result.rows (normal-fits table pool (unrefused table pool accepted))
      ∙ sym (result-is table pool (WIDTH * MOST_ROWS) MOST_BYTES (succeeds table pool (WIDTH * MOST_ROWS) MOST_BYTES success-told))

-- The bundle that is written.
pub written-bundle : (size : ℕ) (bundle : List ℕ) → result_bundle (write_done size bundle) ≡ bundle
unfolding result_bundle write_done written_bytes padded
written-bundle size bundle = take_at bundle (replicate (size - length bundle) 0) (length bundle) refl

-- What success tells of the normalization of a bundle.
pub record BundleSucceeds (bytes : List ℕ) (size : ℕ) : Type 0 where
  pub normal : normalization_refusal (bundle_table bytes) (bundle_pool bytes) (WIDTH * MOST_ROWS) MOST_BYTES ≡ none
  pub bundle : result_bundle (bundle_normalized bytes size) ≡ state_bundle (normal_form (bundle_nodes bytes) (bundle_pool bytes))

pub bundle-succeeds : (bytes : List ℕ) (size : ℕ) → T (bundle_done (bundle_normalized bytes size)) → BundleSucceeds bytes size
unfolding bundle_normalized normalized_into bundle_written
bundle-succeeds bytes size t =
    let table = bundle_table bytes in
    let pool = bundle_pool bytes in
    let bundle = state_bundle (normal_form (nodes table pool) pool) in
    let earlier = normalization_refusal table pool (WIDTH * MOST_ROWS) MOST_BYTES in
    let tried = earlier ∷ refused_if (ltb size (length bundle)) Refusal.BundleRoom ∷ [] in
    let outcome = unless_refused (first_refusal tried) (write_refused size) (write_done size bundle) in
    let done : bundle_done (unless_refused (bundle_refusal bytes) (write_refused size) outcome) ≡ true = T_true _ t in
    let is : bundle_refusal bytes ≡ none = done-unrefused (bundle_refusal bytes) size outcome done in
    let fits : first_refusal tried ≡ none = done-unrefused (first_refusal tried) size (write_done size bundle) (rw is at done) in
    record {
      normal = (all_none tried fits).0;
      bundle = rw (is, fits) (written-bundle size bundle);
    }

pub normalized-bundle : NormalizedBundle
normalized-bundle bytes size t =
    let s = bundle-succeeds bytes size t in
    rw s.bundle (is-bundle (bundle_table bytes) (bundle_pool bytes) s.normal)

-- The rows of the bundle that is written are the result of the table's normalization.
rows-of-result : (bytes : List ℕ) (size : ℕ) → all_of is_byte bytes ≡ true → T (bundle_done (bundle_normalized bytes size)) → bundle_nodes (result_bundle (bundle_normalized bytes size)) ≡ result_rows (normalized (bundle_table bytes) (bundle_pool bytes) (WIDTH * MOST_ROWS) MOST_BYTES)
rows-of-result bytes size all t =
    let s = bundle-succeeds bytes size t in
    ap bundle_nodes s.bundle ∙ rows_written (bundle_table bytes) (bundle_pool bytes) s.normal (words-table bytes all)

-- Demand 3, first part.
pub bundle-meaning : BundleMeaning
bundle-meaning bytes size all t r i b =
    let s = bundle-succeeds bytes size t in
    rw (rows-of-result bytes size all t)
    (meaning (bundle_table bytes) (bundle_pool bytes) (WIDTH * MOST_ROWS) MOST_BYTES (success-told (bundle_table bytes) (bundle_pool bytes) s.normal) r i b)

-- Demand 3, second part.
pub bundle-independence : BundleIndependence
bundle-independence bytes size bytes' size' all all' t t' e i agree =
    let s = bundle-succeeds bytes size t in
    let s' = bundle-succeeds bytes' size' t' in
    rw (rows-of-result bytes size all t, rows-of-result bytes' size' all' t')
    (independence (bundle_table bytes) (bundle_pool bytes) (WIDTH * MOST_ROWS) MOST_BYTES (bundle_table bytes') (bundle_pool bytes') (WIDTH * MOST_ROWS) MOST_BYTES
    (success-told (bundle_table bytes) (bundle_pool bytes) s.normal) (success-told (bundle_table bytes') (bundle_pool bytes') s'.normal) e i agree)
