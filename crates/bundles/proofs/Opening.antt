-- What bytes tell whose lengths agree, the rows by their version, and the room for the rows that they name.
-- Assumes nothing.
use Prim.Native.Nat.{ℕ, ◌+◌, ◌*◌, ◌≤◌}
use mathlib.Core.Path.{◌≡◌, refl, ap, ◌∙◌}
use mathlib.Core.Bool.{true, false, ◌||◌, not}
use mathlib.Core.List.{List, [], ◌∷◌}
use mathlib.Core.Option.{none}
use native.Mathlib.Omega.{arith}
use lib.ListN.{length, get_or, take, drop, replicate, length-drop, length-replicate}
use lib.Seq.{length-take-le}
use lib.Dec.{eqb, ltb}
use borrow.Author.Tests.{ltb-false, eqb-true}
use Rattle.rules.specs.Lists.{all_of}
use Rattle.rules.specs.Table.{WIDTH, MOST_ROWS, row_count}
use Rattle.rules.specs.Refusals.{refused_if}
use Rattle.rules.specs.declared.Refusal.{Refusal}
use Rattle.rules.proofs.Refusals.{not-refused, all_none}
use Rattle.rules.proofs.Lists.{by_cases, both_false, not-false}
use Rattle.little_endian.specs.Numbers.{is_byte, is_word, words_from}
use Rattle.little_endian.proofs.Numbers.{all_drop, words_small, length-words_from}
use Rattle.bundles.specs.Bundles.{HEADER, ROW_BYTES, OLD_WIDTH, OLD_ROW_BYTES, is_old, row_bytes, pool_start, bundle_rows, bundle_pool_length, wrong_mark, other_version, bad_lengths, bundle_refusal, widened, bundle_table, bundle_pool}
use Rattle.bundles.specs.Opening.{NamesAtMost, HasRoom, Opens}
use Rattle.bundles.proofs.OldRows.{length-widened, widened_words}

-- What bytes tell that do not draw 32.
pub record Agreed (bytes : List ℕ) : Type 0 where
  pub header : HEADER ≤ length bytes
  pub zero_byte : get_or bytes 5 0 ≡ 0
  pub total : length bytes ≡ pool_start bytes + bundle_pool_length bytes

pub agreed : (bytes : List ℕ) → bad_lengths bytes ≡ false → Agreed bytes
unfolding bad_lengths
agreed bytes e =
    let outer = both_false (ltb (length bytes) HEADER || not (eqb (get_or bytes 5 0) 0)) (not (eqb (length bytes) (pool_start bytes + bundle_pool_length bytes))) e in
    let inner = both_false (ltb (length bytes) HEADER) (not (eqb (get_or bytes 5 0) 0)) outer.0 in
    record {
      header = ltb-false (length bytes) HEADER inner.0;
      zero_byte = eqb-true (get_or bytes 5 0) 0 (not-false (eqb (get_or bytes 5 0) 0) inner.1);
      total = eqb-true (length bytes) (pool_start bytes + bundle_pool_length bytes) (not-false (eqb (length bytes) (pool_start bytes + bundle_pool_length bytes)) outer.1);
    }

pub bundle-agreed : (bytes : List ℕ) → bundle_refusal bytes ≡ none → Agreed bytes
unfolding bundle_refusal
bundle-agreed bytes e =
    let a = all_none (refused_if (wrong_mark bytes) Refusal.Mark ∷ refused_if (other_version bytes) Refusal.Version ∷ refused_if (bad_lengths bytes) Refusal.Lengths ∷ []) e in
    agreed bytes (not-refused (bad_lengths bytes) Refusal.Lengths a.1.1.0)

-- What is read, by the version.
module _ (bytes : List ℕ) where
  pub new-bytes : is_old bytes ≡ false → row_bytes bytes ≡ ROW_BYTES
  unfolding row_bytes
  new-bytes e = rw e refl

  pub old-bytes : is_old bytes ≡ true → row_bytes bytes ≡ OLD_ROW_BYTES
  unfolding row_bytes
  old-bytes e = rw e refl

  pub new-table : is_old bytes ≡ false → bundle_table bytes ≡ words_from (WIDTH * bundle_rows bytes) (drop HEADER bytes)
  unfolding bundle_table
  new-table e = rw e refl

  pub old-table : is_old bytes ≡ true → bundle_table bytes ≡ widened (bundle_rows bytes) (words_from (OLD_WIDTH * bundle_rows bytes) (drop HEADER bytes))
  unfolding bundle_table
  old-table e = rw e refl

  pub length-table : length (bundle_table bytes) ≡ WIDTH * bundle_rows bytes
  length-table =
      let rest = drop HEADER bytes in
      by_cases (is_old bytes)
      (λ e.
      let long = length-words_from (OLD_WIDTH * bundle_rows bytes) rest in
      ap length (old-table e) ∙ length-widened (bundle_rows bytes) (words_from (OLD_WIDTH * bundle_rows bytes) rest) (omega arith))
      (λ e. ap length (new-table e) ∙ length-words_from (WIDTH * bundle_rows bytes) rest)

  pub words-table : all_of is_byte bytes ≡ true → all_of is_word (bundle_table bytes) ≡ true
  words-table all =
      let rest = drop HEADER bytes in
      let bytes? = all_drop is_byte HEADER bytes all in
      by_cases (is_old bytes)
      (λ e. rw (old-table e) (widened_words (bundle_rows bytes) (words_from (OLD_WIDTH * bundle_rows bytes) rest) (words_small (OLD_WIDTH * bundle_rows bytes) rest bytes?)))
      (λ e. rw (new-table e) (words_small (WIDTH * bundle_rows bytes) rest bytes?))

  pub length-pool : Agreed bytes → length (bundle_pool bytes) ≡ bundle_pool_length bytes
  unfolding bundle_pool
  length-pool known =
      let cut = length-drop (pool_start bytes) bytes in
      let total = known.total in
      omega arith

-- A new buffer has room for the rows that it was made for.
pub new-room : (bytes : List ℕ) (most u : ℕ) → (HEADER ≤ length bytes → bundle_rows bytes ≤ MOST_ROWS → bundle_rows bytes ≤ most) → HasRoom bytes (replicate (WIDTH * most) u)
new-room bytes most u fits header few =
    let size = length-replicate {A = ℕ} (WIDTH * most) u in
    omega (arith, fits header few)

-- The row count that was read.
pub named : (bytes : List ℕ) (rows most : ℕ) → (HEADER ≤ length bytes → rows ≡ bundle_rows bytes) → rows ≤ most → NamesAtMost bytes most
named bytes rows most read small header =
    let is = read header in
    omega arith

-- The rows of a bundle that names few are few.
pub opened-few : (bytes buffer : List ℕ) (n : ℕ) → Opens bytes buffer n → (most : ℕ) → NamesAtMost bytes most → row_count (take (WIDTH * n) buffer) ≤ most
opened-few bytes buffer n is most names =
    let inside = is.inside in
    let few = names (omega arith) in
    let rows = is.rows in
    let long = length-take-le (WIDTH * n) buffer is.room in
    omega arith
