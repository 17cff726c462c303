-- A bundle of the version before makers stands for the table without makers that it was written of, and every operation answers
-- of it what it answers of the bundle that is written of that table.
-- Assumes nothing.
use Rattle.std.specs.Prelude.{Err}
use Prim.Native.Nat.{ℕ, ◌*◌}
use mathlib.Core.Path.{◌≡◌, refl, sym, ap, ◌∙◌}
use mathlib.Core.Bool.{true, ◌||◌}
use mathlib.Core.List.{List, ◌++◌}
use mathlib.Core.Option.{Option}
use native.Mathlib.Omega.{arith}
use lib.ListN.{length, drop}
use lib.Dec.{eqb}
use Rattle.rules.specs.Lists.{all_of}
use Rattle.rules.specs.Table.{WIDTH, MAKER, word, row_count}
use Rattle.rules.specs.Refusals.{unless_refused, checked}
use Rattle.rules.specs.Lookups.{lookup_at, prefix_of_uri_at, default_uri_at}
use Rattle.rules.specs.Outputs.{refusal}
use Rattle.rules.specs.declared.Refusal.{Refusal}
use Rattle.little_endian.specs.Numbers.{is_byte, is_word, word_bytes, words_from}
use Rattle.little_endian.proofs.Numbers.{number_small, all_drop, words-written, length-words_from}
use Rattle.bundles.specs.Bundles.{VERSION, OLD_VERSION, HEADER, OLD_WIDTH, bundle_version, bundle_rows, is_old, row_bytes, widened, bundle_table, bundle_pool}
use Rattle.bundles.specs.Operations.{table_read, write_refused, bundle_read, bundle_checked, bundle_lookup, bundle_prefix_of_uri, bundle_default_uri, normalized_into, bundle_normalized}
use Rattle.bundles.specs.Inverse.{StandsFor}
use Rattle.bundles.specs.Versions.{narrowed, old_bundle, NoMakers, ReadsOld, WritesOld, renewed, Renews, RenewedAnswers, AnswersRenewed}
use Rattle.bundles.proofs.OldRows.{length-narrowed, narrowed-words, widened-makers, narrow-widen, widen-narrow}
use Rattle.bundles.proofs.Opening.{bundle-agreed, old-bytes, old-table, length-table, words-table, length-pool}
use Rattle.bundles.proofs.Inverse.{Writable, rows_back, pool-back, is-bundle, written_stands, legal-writable, count-read, behind-read, read-written}

-- The bundle that was written of a table.
module _ (table pool : List ℕ) (can : Writable table pool) where
  abbrev rows : ℕ
  rows = row_count table

  abbrev kept : List ℕ
  kept = narrowed rows table

  old : is_old (old_bundle table pool) ≡ true
  unfolding old_bundle is_old
  old = refl

  known-version : (eqb (bundle_version (old_bundle table pool)) VERSION || is_old (old_bundle table pool)) ≡ true
  unfolding old_bundle is_old
  known-version = refl

  count : length table ≡ WIDTH * rows
  count = let whole = can.whole in omega arith

  fits : row_bytes (old_bundle table pool) * rows ≡ 4 * length kept
  fits =
      let long = length-narrowed rows table count in
      ap (λ (n : ℕ). n * rows) (old-bytes (old_bundle table pool) old) ∙ omega arith

  old-back : all_of is_word table ≡ true → NoMakers table → bundle_table (old_bundle table pool) ≡ table
  unfolding old_bundle
  old-back all none? =
      let bytes = old_bundle table pool in
      let named = rows_back OLD_VERSION rows kept pool can.rows can.pool_small in
      let long : OLD_WIDTH * rows ≡ length kept = sym (length-narrowed rows table count) in
      old-table bytes old
      ∙ ap (λ (n : ℕ). widened n (words_from (OLD_WIDTH * n) (drop HEADER bytes))) named
      ∙ ap (λ (n : ℕ). widened rows (words_from n (drop HEADER bytes))) long
      ∙ ap (widened rows) (words-written kept pool (narrowed-words rows table all))
      ∙ narrow-widen rows table count none?

  old-stands : all_of is_word table ≡ true → NoMakers table → StandsFor (old_bundle table pool) table pool
  unfolding old_bundle
  old-stands all none? =
      record {
        bundle = is-bundle OLD_VERSION rows kept pool can.rows can.pool_small fits known-version;
        table_read = old-back all none?;
        pool_read = pool-back OLD_VERSION rows kept pool can.rows can.pool_small fits;
      }

pub reads_old : ReadsOld
reads_old table pool all e none? = old-stands table pool (legal-writable table pool e) all none?

pub writes_old : WritesOld
unfolding old_bundle is_old
writes_old bytes all e version =
    let rows = bundle_rows bytes in
    let words = words_from (OLD_WIDTH * rows) (drop HEADER bytes) in
    let long = length-words_from (OLD_WIDTH * rows) (drop HEADER bytes) in
    let old : is_old bytes ≡ true = ap (λ (n : ℕ). eqb n OLD_VERSION) version in
    let count = count-read bytes all e in
    let place : 4 * (OLD_WIDTH * rows) ≡ row_bytes bytes * rows = rw (old-bytes bytes old) (omega arith) in
    let kept : narrowed (row_count (bundle_table bytes)) (bundle_table bytes) ≡ words =
    ap (λ (n : ℕ). narrowed n (bundle_table bytes)) count ∙ ap (narrowed rows) (old-table bytes old) ∙ widen-narrow rows words long in
    record {
      no_makers = λ r i. ap (λ (t : List ℕ). word t r MAKER) (old-table bytes old) ∙ widened-makers rows words (omega arith) r (omega arith);
      same =
          read-written bytes all e OLD_VERSION (sym version) (narrowed (row_count (bundle_table bytes)) (bundle_table bytes))
          (ap (λ (w : List ℕ). word_bytes w ++ bundle_pool bytes) kept ∙ behind-read bytes all e (OLD_WIDTH * rows) place);
    }

-- What a bundle stands for can be written: its two numbers have two and four bytes.
pub renews : Renews
renews bytes all e =
    let known = bundle-agreed bytes e in
    let long = length-table bytes in
    let size = length-pool bytes known in
    let few = number_small 2 (drop 6 bytes) (all_drop is_byte 6 bytes all) in
    let small = number_small 4 (drop 8 bytes) (all_drop is_byte 8 bytes all) in
    written_stands (bundle_table bytes) (bundle_pool bytes) (record { whole = omega arith; rows = omega arith; pool_small = omega arith }) (words-table bytes all)

pub renewed-answers : RenewedAnswers
renewed-answers A refused answer bytes all e =
    let s = renews bytes all e in
    ap (λ (o : Option Refusal). unless_refused o refused (answer (bundle_table (renewed bytes)) (bundle_pool (renewed bytes)))) s.bundle
    ∙ ap (λ (t : List ℕ). answer t (bundle_pool (renewed bytes))) s.table_read
    ∙ ap (answer (bundle_table bytes)) s.pool_read
    ∙ sym (ap (λ (o : Option Refusal). unless_refused o refused (answer (bundle_table bytes) (bundle_pool bytes))) e)

pub answers-renewed : AnswersRenewed
unfolding bundle_checked bundle_lookup bundle_prefix_of_uri bundle_default_uri bundle_read bundle_normalized
answers-renewed bytes all e =
    record {
      check = renewed-answers _ Err checked bytes all e;
      lookup = λ question row query. renewed-answers _ Err (λ t p. lookup_at question t p row query) bytes all e;
      prefix_of_uri = λ row uri. renewed-answers _ Err (λ t p. prefix_of_uri_at t p row uri) bytes all e;
      default_uri = λ row. renewed-answers _ Err (λ t p. default_uri_at t p row) bytes all e;
      read = λ table_size pool_size. renewed-answers _ (refusal table_size pool_size) (λ t p. table_read t p table_size pool_size) bytes all e;
      normalized = λ size. renewed-answers _ (write_refused size) (λ t p. normalized_into t p size) bytes all e;
    }
