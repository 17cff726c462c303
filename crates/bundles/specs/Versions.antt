-- RULES 11.8, bundles of the version before makers: they stand for tables whose rows have maker 0, and every operation answers of
-- them what it answers of the bundle that is written of that table.
use Rattle.std.specs.Prelude.{ℕ, zero, suc, ◌<◌, ◌≡◌, true, List, [], ◌++◌, length, take, drop}
use Rattle.std.proofs.Math.Option.{none}
use Rattle.rules.specs.Lists.{all_of}
use Rattle.rules.specs.Table.{WIDTH, MAKER, word, row_count}
use Rattle.rules.specs.Refusals.{check_refusal}
use Rattle.rules.specs.declared.Refusal.{Refusal}
use Rattle.rules.specs.declared.Question.{Question}
use Rattle.little_endian.specs.Numbers.{is_byte, is_word, word_bytes}
use Rattle.bundles.specs.Bundles.{OLD_VERSION, OLD_WIDTH, header_of, write_bundle, bundle_version, bundle_refusal, bundle_table, bundle_pool}
use Rattle.bundles.specs.Operations.{over_bundle, bundle_read, bundle_checked, bundle_lookup, bundle_prefix_of_uri, bundle_default_uri, bundle_normalized}
use Rattle.bundles.specs.Inverse.{StandsFor}

-- The words of so many rows without their makers.
unfoldable pub narrowed : ℕ → List ℕ → List ℕ
narrowed zero table = []
narrowed (suc rows) table = take OLD_WIDTH table ++ narrowed rows (drop WIDTH table)

-- The bundle that was written of a table and its pool before makers.
unfoldable pub old_bundle : List ℕ → List ℕ → List ℕ
old_bundle table pool = header_of OLD_VERSION (row_count table) (length pool) ++ (word_bytes (narrowed (row_count table) table) ++ pool)

-- Every row of a table has maker 0.
abbrev pub NoMakers : List ℕ → Type 0
NoMakers table = (r : ℕ) → r < row_count table → word table r MAKER ≡ 0

-- A legal table without makers is read back from what was written of it.
abbrev pub ReadsOld : Type 0
ReadsOld =
    (table pool : List ℕ) → all_of is_word table ≡ true → check_refusal table pool ≡ none → NoMakers table →
    StandsFor (old_bundle table pool) table pool

-- The bytes are what was written of a table without makers.
pub record WasWritten (bytes table pool : List ℕ) : Type 0 where
  pub no_makers : NoMakers table
  pub same : old_bundle table pool ≡ bytes

-- Every bundle of that version is such a one.
abbrev pub WritesOld : Type 0
WritesOld =
    (bytes : List ℕ) → all_of is_byte bytes ≡ true → bundle_refusal bytes ≡ none → bundle_version bytes ≡ OLD_VERSION →
    WasWritten bytes (bundle_table bytes) (bundle_pool bytes)

-- The bundle that is written of the table and the pool that bytes stand for.
abbrev pub renewed : List ℕ → List ℕ
renewed bytes = write_bundle (bundle_table bytes) (bundle_pool bytes)

-- It stands for the same.
abbrev pub Renews : Type 0
Renews =
    (bytes : List ℕ) → all_of is_byte bytes ≡ true → bundle_refusal bytes ≡ none →
    StandsFor (renewed bytes) (bundle_table bytes) (bundle_pool bytes)

-- An operation over bundles answers the same of both, whatever it is.
abbrev pub RenewedAnswers : Type 1
RenewedAnswers =
    (A : Type 0) (refused : Refusal → A) (answer : List ℕ → List ℕ → A) (bytes : List ℕ) →
    all_of is_byte bytes ≡ true → bundle_refusal bytes ≡ none →
    over_bundle (renewed bytes) refused answer ≡ over_bundle bytes refused answer

-- The operations of this crate, by name.
pub record AnswersAlike (bytes other : List ℕ) : Type 0 where
  pub check : bundle_checked other ≡ bundle_checked bytes
  pub lookup : (question : Question) (row : ℕ) (query : List ℕ) → bundle_lookup question other row query ≡ bundle_lookup question bytes row query
  pub prefix_of_uri : (row : ℕ) (uri : List ℕ) → bundle_prefix_of_uri other row uri ≡ bundle_prefix_of_uri bytes row uri
  pub default_uri : (row : ℕ) → bundle_default_uri other row ≡ bundle_default_uri bytes row
  pub read : (table_size pool_size : ℕ) → bundle_read other table_size pool_size ≡ bundle_read bytes table_size pool_size
  pub normalized : (size : ℕ) → bundle_normalized other size ≡ bundle_normalized bytes size

abbrev pub AnswersRenewed : Type 0
AnswersRenewed =
    (bytes : List ℕ) → all_of is_byte bytes ≡ true → bundle_refusal bytes ≡ none → AnswersAlike bytes (renewed bytes)
