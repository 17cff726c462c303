-- What opening a bundle gives, before the check.
use Rattle.std.specs.Prelude.{ℕ, ◌*◌, ◌≤◌, ◌≡◌, List, [], ◌∷◌, length, take}
use Rattle.std.proofs.Math.Option.{Option, none}
use Rattle.rules.specs.Table.{WIDTH, MOST_ROWS, MOST_BYTES}
use Rattle.rules.specs.Refusals.{refused_if, first_refusal, bad_size}
use Rattle.rules.specs.declared.Refusal.{Refusal}
use Rattle.bundles.specs.Bundles.{HEADER, pool_start, bundle_rows, bundle_refusal, bundle_table, bundle_pool}

-- 30 to 32, and 1.
unfoldable pub opening_refusal : List ℕ → Option Refusal
opening_refusal bytes =
    first_refusal (bundle_refusal bytes ∷ refused_if (bad_size (bundle_table bytes) (bundle_pool bytes)) Refusal.Size ∷ [])

-- The bytes name at most so many rows. Bytes that end before the rows name none.
abbrev pub NamesAtMost : List ℕ → ℕ → Type 0
NamesAtMost bytes most = HEADER ≤ length bytes → bundle_rows bytes ≤ most

-- The buffer has room for the rows that the bytes name, if these are not too many.
abbrev pub HasRoom : List ℕ → List ℕ → Type 0
HasRoom bytes buffer = HEADER ≤ length bytes → bundle_rows bytes ≤ MOST_ROWS → WIDTH * bundle_rows bytes ≤ length buffer

-- The bytes are a bundle of n rows, and these stand at the start of the buffer.
pub record Opens (bytes buffer : List ℕ) (n : ℕ) : Type 0 where
  pub bundle : bundle_refusal bytes ≡ none
  pub rows : bundle_rows bytes ≡ n
  pub few : n ≤ MOST_ROWS
  pub short : length (bundle_pool bytes) ≤ MOST_BYTES
  pub room : WIDTH * n ≤ length buffer
  pub inside : pool_start bytes ≤ length bytes
  pub table : take (WIDTH * n) buffer ≡ bundle_table bytes
