-- What normalization writes passes the check; reading and writing undo each other, as the calls answer.
-- Assumes nothing.
use Rattle.std.specs.Prelude.{Ok}
use Prim.Native.Nat.{ℕ, ◌-◌, ◌*◌, ◌/◌, ◌%◌, ◌≤◌}
use mathlib.Core.Path.{◌≡◌, refl, sym, ap, ◌∙◌}
use mathlib.Core.Bool.{true, false}
use mathlib.Core.List.{List, [], ◌∷◌}
use mathlib.Core.Option.{Option, none, some}
use native.Mathlib.Omega.{arith}
use lib.ListN.{length, take, replicate}
use lib.Seq.{take_at}
use lib.Dec.{T, ltb}
use borrow.Author.Tests.{le-ltb}
use Rattle.rules.specs.Lists.{all_of}
use Rattle.rules.specs.Table.{WIDTH, MOST_ROWS, MOST_BYTES, row_count, words}
use Rattle.rules.specs.Answers.{filled_number, filled_rows, filled_bytes, written_number}
use Rattle.rules.specs.Refusals.{refused_if, first_refusal, unless_refused, check_refusal, checked}
use Rattle.rules.specs.Outputs.{padded, Outcome, refusal, filled}
use Rattle.rules.specs.Normalization.{success, normalization_refusal}
use Rattle.rules.specs.declared.Refusal.{Refusal}
use Rattle.rules.proofs.Lists.{T_true, true-not-false}
use Rattle.rules.proofs.Refusals.{all_none}
use Rattle.rules.proofs.Table.{length-words}
use Rattle.rules.proofs.Accepted.{unrefused}
use Rattle.rules.proofs.Result.{refusal-numbered}
use Rattle.rules.proofs.Again.{passes-again}
use Rattle.little_endian.specs.Numbers.{is_word}
use Rattle.bundles.specs.Bundles.{write_bundle, bundle_refusal, bundle_table, bundle_pool}
use Rattle.bundles.specs.Operations.{table_read_refusal, table_read, write_done, bundle_written, table_written, bundle_read, bundle_checked, state_bundle}
use Rattle.bundles.specs.Inverse.{StandsFor}
use Rattle.bundles.specs.Demands.{bundle_done, result_bundle}
use Rattle.bundles.specs.Calls.{bundle_was_read, Reads, Writes, NormalizedPasses, ReadsWritten, WritesRead}
use Rattle.bundles.proofs.Opening.{words-table}
use Rattle.bundles.proofs.Inverse.{reads-back, writes-back}
use Rattle.bundles.proofs.Demand3.{result, normal, success-told, stands, done-unrefused, written-bundle, bundle-succeeds}

-- The result of a normalization passes the check, and so does its bundle.
module _ (table pool : List ℕ) (none? : normalization_refusal table pool (WIDTH * MOST_ROWS) MOST_BYTES ≡ none) where
  passes : checked (words (result table pool none?).rows) (result table pool none?).pool ≡ Ok tt
  unfolding success filled_rows filled_bytes padded
  passes =
      let made = result table pool none? in
      let again = passes-again table pool (WIDTH * MOST_ROWS) MOST_BYTES (success-told table pool none?) in
      rw (normal table pool none?, take_at (words made.rows) (replicate (WIDTH * MOST_ROWS - length (words made.rows)) 0) (WIDTH * length made.rows) (length-words made.rows), take_at made.pool (replicate (MOST_BYTES - length made.pool) 0) (length made.pool) refl) at again

  bundle-passes : all_of is_word table ≡ true → bundle_checked (state_bundle (result table pool none?)) ≡ Ok tt
  unfolding bundle_checked
  bundle-passes all =
      let back = stands table pool none? all in
      rw (back.bundle, back.table_read, back.pool_read) passes

pub normalized-passes : NormalizedPasses
normalized-passes bytes size all t =
    let s = bundle-succeeds bytes size t in
    rw s.bundle (bundle-passes (bundle_table bytes) (bundle_pool bytes) s.normal (words-table bytes all))

-- A read that is refused, and the answered parts of one that is not.
refused-not-read : (table_size pool_size : ℕ) (x : Refusal) → bundle_was_read (refusal table_size pool_size x) ≡ false
unfolding bundle_was_read refusal filled_number
refused-not-read table_size pool_size x = refusal-numbered x

read-unrefused : (o : Option Refusal) (table_size pool_size : ℕ) (answer : Outcome) → bundle_was_read (unless_refused o (refusal table_size pool_size) answer) ≡ true → o ≡ none
read-unrefused none table_size pool_size answer e = refl
read-unrefused (some x) table_size pool_size answer e = absurd (true-not-false e (refused-not-read table_size pool_size x))

read-parts : (table_size pool_size : ℕ) (table pool : List ℕ) → length table % WIDTH ≡ 0 → Reads (filled table_size pool_size (row_count table) table pool) table pool
unfolding bundle_was_read filled_number filled_rows filled_bytes padded
read-parts table_size pool_size table pool whole =
    record {
      done = tt;
      table_read = take_at table (replicate (table_size - length table) 0) (WIDTH * row_count table) (omega arith);
      pool_read = take_at pool (replicate (pool_size - length pool) 0) (length pool) refl;
    }

-- What reading a bundle gives that stands for an accepted table.
read_of :
    (bytes table pool : List ℕ) (table_size pool_size : ℕ) → StandsFor bytes table pool → check_refusal table pool ≡ none
    → row_count table ≤ table_size / WIDTH → length pool ≤ pool_size → bundle_read bytes table_size pool_size ≡ filled table_size pool_size (row_count table) table pool
unfolding bundle_read table_read table_read_refusal
read_of bytes table pool table_size pool_size back ok rows room =
    rw (back.bundle, back.table_read, back.pool_read, ok, le-ltb (table_size / WIDTH) (row_count table) rows, le-ltb pool_size (length pool) room) refl

-- What a written table tells.
written_of : (table pool : List ℕ) (size : ℕ) → T (bundle_done (table_written table pool size)) → (check_refusal table pool ≡ none) × (result_bundle (table_written table pool size) ≡ write_bundle table pool)
unfolding table_written bundle_written
written_of table pool size t =
    let bundle = write_bundle table pool in
    let tried = check_refusal table pool ∷ refused_if (ltb size (length bundle)) Refusal.BundleRoom ∷ [] in
    let fits : first_refusal tried ≡ none = done-unrefused (first_refusal tried) size (write_done size bundle) (T_true _ t) in
    ((all_none tried fits).0, rw fits (written-bundle size bundle))

pub reads-written : ReadsWritten
reads-written table pool size table_size pool_size all t rows room =
    let written = written_of table pool size t in
    let ok = written.0 in
    rw (written.1, read_of (write_bundle table pool) table pool table_size pool_size (reads-back table pool all ok) ok rows room)
    (read-parts table_size pool_size table pool (unrefused table pool ok).size.whole)

-- What a bundle tells that was read.
record WasRead (bytes : List ℕ) (table_size pool_size : ℕ) : Type 0 where
  bundle : bundle_refusal bytes ≡ none
  accepted : check_refusal (bundle_table bytes) (bundle_pool bytes) ≡ none
  outcome : bundle_read bytes table_size pool_size ≡ filled table_size pool_size (row_count (bundle_table bytes)) (bundle_table bytes) (bundle_pool bytes)

was_read : (bytes : List ℕ) (table_size pool_size : ℕ) → T (bundle_was_read (bundle_read bytes table_size pool_size)) → WasRead bytes table_size pool_size
unfolding bundle_read table_read table_read_refusal
was_read bytes table_size pool_size t =
    let table = bundle_table bytes in
    let pool = bundle_pool bytes in
    let tried = check_refusal table pool ∷ refused_if (ltb (table_size / WIDTH) (row_count table)) Refusal.RowRoom ∷ refused_if (ltb pool_size (length pool)) Refusal.PoolRoom ∷ [] in
    let answer = unless_refused (first_refusal tried) (refusal table_size pool_size) (filled table_size pool_size (row_count table) table pool) in
    let done : bundle_was_read (unless_refused (bundle_refusal bytes) (refusal table_size pool_size) answer) ≡ true = T_true _ t in
    let is : bundle_refusal bytes ≡ none = read-unrefused (bundle_refusal bytes) table_size pool_size answer done in
    let fits : first_refusal tried ≡ none = read-unrefused (first_refusal tried) table_size pool_size (filled table_size pool_size (row_count table) table pool) (rw is at done) in
    record { bundle = is; accepted = (all_none tried fits).0; outcome = rw (is, fits) refl }

-- Writing an accepted table into an output that has room.
writes : (table pool : List ℕ) (size : ℕ) → check_refusal table pool ≡ none → length (write_bundle table pool) ≤ size → Writes (table_written table pool size) (write_bundle table pool)
unfolding table_written bundle_written bundle_done write_done written_number
writes table pool size ok room =
    let bundle = write_bundle table pool in
    let fits : first_refusal (check_refusal table pool ∷ refused_if (ltb size (length bundle)) Refusal.BundleRoom ∷ []) ≡ none = rw (ok, le-ltb size (length bundle) room) refl in
    record { done = rw fits tt; bytes = rw fits (written-bundle size bundle) }

pub writes-read : WritesRead
writes-read bytes table_size pool_size size byte version table pool reads room =
    let was = was_read bytes table_size pool_size reads.done in
    let parts = read-parts table_size pool_size (bundle_table bytes) (bundle_pool bytes) (unrefused (bundle_table bytes) (bundle_pool bytes) was.accepted).size.whole in
    let outcome = was.outcome in
    let same-table : bundle_table bytes ≡ table = sym parts.table_read ∙ ap (λ (o : Outcome). take (WIDTH * filled_rows o.answer) o.table) (sym outcome) ∙ reads.table_read in
    let same-pool : bundle_pool bytes ≡ pool = sym parts.pool_read ∙ ap (λ (o : Outcome). take (filled_bytes o.answer) o.pool) (sym outcome) ∙ reads.pool_read in
    let back = writes-back bytes byte was.bundle version in
    rw (sym same-table, sym same-pool) (rw back at (writes (bundle_table bytes) (bundle_pool bytes) size was.accepted (rw back room)))
