-- RULES 11.7 and 11.8 as the calls answer: what normalization writes passes the check; reading gives back what was written, and
-- writing what was read. They speak of the answered parts of the outputs.
use Rattle.std.specs.Prelude.{ℕ, ◌*◌, ◌/◌, ◌≤◌, ◌≡◌, Bool, true, List, length, take, T, eqb, Ok}
use Rattle.rules.specs.Lists.{all_of}
use Rattle.rules.specs.Table.{WIDTH, row_count}
use Rattle.rules.specs.Answers.{filled_number, filled_rows, filled_bytes}
use Rattle.little_endian.specs.Numbers.{is_byte, is_word}
use Rattle.rules.specs.Outputs.{Outcome}
use Rattle.bundles.specs.Bundles.{VERSION, bundle_version}
use Rattle.bundles.specs.Operations.{WriteOutcome, bundle_read, table_written, bundle_checked, bundle_normalized}
use Rattle.bundles.specs.Demands.{bundle_done, result_bundle}

-- A bundle was read.
unfoldable pub bundle_was_read : Outcome → Bool
bundle_was_read o = eqb (filled_number o.answer).number 0

-- The call has read this table and this pool: the answered parts of its outputs.
pub record Reads (o : Outcome) (table pool : List ℕ) : Type 0 where
  pub done : T (bundle_was_read o)
  pub table_read : take (WIDTH * filled_rows o.answer) o.table ≡ table
  pub pool_read : take (filled_bytes o.answer) o.pool ≡ pool

-- The call has written this bundle.
pub record Writes (o : WriteOutcome) (bundle : List ℕ) : Type 0 where
  pub done : T (bundle_done o)
  pub bytes : result_bundle o ≡ bundle

-- What normalization writes passes the check.
abbrev pub NormalizedPasses : Type 0
NormalizedPasses =
    (bytes : List ℕ) (size : ℕ) → all_of is_byte bytes ≡ true → T (bundle_done (bundle_normalized bytes size)) →
    bundle_checked (result_bundle (bundle_normalized bytes size)) ≡ Ok tt

-- What was written is read back, into outputs that have room.
abbrev pub ReadsWritten : Type 0
ReadsWritten =
    (table pool : List ℕ) (size table_size pool_size : ℕ) → all_of is_word table ≡ true → T (bundle_done (table_written table pool size)) →
    row_count table ≤ table_size / WIDTH → length pool ≤ pool_size →
    Reads (bundle_read (result_bundle (table_written table pool size)) table_size pool_size) table pool

-- What was read of a bundle of the version that is written is written back, every byte, into an output that has room.
abbrev pub WritesRead : Type 0
WritesRead =
    (bytes : List ℕ) (table_size pool_size size : ℕ) → all_of is_byte bytes ≡ true → bundle_version bytes ≡ VERSION → (table pool : List ℕ) →
    Reads (bundle_read bytes table_size pool_size) table pool → length bytes ≤ size →
    Writes (table_written table pool size) bytes
