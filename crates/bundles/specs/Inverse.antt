-- RULES 11.8, session bundles: reader and writer are inverse.
use Rattle.std.specs.Prelude.{ℕ, ◌≡◌, true, List}
use Rattle.std.proofs.Math.Option.{none}
use Rattle.rules.specs.Lists.{all_of}
use Rattle.rules.specs.Refusals.{check_refusal}
use Rattle.little_endian.specs.Numbers.{is_byte, is_word}
use Rattle.bundles.specs.Bundles.{VERSION, write_bundle, bundle_version, bundle_refusal, bundle_table, bundle_pool}

-- The bytes are a bundle, and stand for this table and this pool.
pub record StandsFor (bytes table pool : List ℕ) : Type 0 where
  pub bundle : bundle_refusal bytes ≡ none
  pub table_read : bundle_table bytes ≡ table
  pub pool_read : bundle_pool bytes ≡ pool

-- Every legal table of words and its pool are read back from what is written of them. A maker may be any word.
abbrev pub ReadsBack : Type 0
ReadsBack =
    (table pool : List ℕ) → all_of is_word table ≡ true → check_refusal table pool ≡ none →
    StandsFor (write_bundle table pool) table pool

-- What is read of a bundle of the version that is written is written back as it was, every byte.
abbrev pub WritesBack : Type 0
WritesBack =
    (bytes : List ℕ) → all_of is_byte bytes ≡ true → bundle_refusal bytes ≡ none → bundle_version bytes ≡ VERSION →
    write_bundle (bundle_table bytes) (bundle_pool bytes) ≡ bytes
