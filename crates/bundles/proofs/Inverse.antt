-- Reader and writer are inverse: what is written is read back, and what is read is written back, every byte.
-- Assumes nothing.
use Prim.Native.Nat.{ℕ, ◌+◌, ◌*◌, ◌%◌, ◌≤◌, ◌<◌}
use mathlib.Core.Path.{◌≡◌, refl, sym, ap, ◌∙◌}
use mathlib.Core.Bool.{true, false, ◌||◌}
use mathlib.Core.List.{List, [], ◌∷◌, ◌++◌, append_assoc}
use mathlib.Core.Option.{none}
use native.Mathlib.Omega.{arith}
use lib.ListN.{length, get_or, take, drop, length-drop, take-append-drop}
use lib.Seq.{drop-cons, drop-drop}
use lib.Dec.{eqb}
use borrow.Author.Tests.{le-ltb, eq-eqb}
use Rattle.rules.specs.Lists.{all_of, same_bytes}
use Rattle.rules.specs.Table.{WIDTH, part, row_count}
use Rattle.rules.specs.Refusals.{refused_if, check_refusal}
use Rattle.rules.specs.declared.Refusal.{Refusal}
use Rattle.rules.proofs.Lists.{not-false, same_bytes-equal}
use Rattle.rules.proofs.Refusals.{not-refused, all_none}
use Rattle.rules.proofs.Accepted.{unrefused}
use Rattle.little_endian.specs.Numbers.{is_byte, is_word, word_bytes, words_from}
use Rattle.little_endian.proofs.Numbers.{number-bytes, all_drop, number-back, words-written, rest-written, words-read}
use Rattle.bundles.specs.Bundles.{MARK, VERSION, OLD_VERSION, HEADER, header_of, write_bundle, bundle_version, bundle_rows, bundle_pool_length, is_old, row_bytes, pool_start, wrong_mark, other_version, bad_lengths, bundle_refusal, bundle_table, bundle_pool}
use Rattle.bundles.specs.Inverse.{StandsFor, ReadsBack, WritesBack}
use Rattle.bundles.proofs.Opening.{Agreed, bundle-agreed, new-bytes, new-table, length-table, length-pool}
use Rattle.bundles.proofs.Writing.{length-any}

-- The table has whole rows, and its rows and its pool's length are numbers that a bundle can hold.
pub record Writable (table pool : List ℕ) : Type 0 where
  pub whole : length table % WIDTH ≡ 0
  pub rows : row_count table < 65536
  pub pool_small : length pool < 4294967296

-- A bundle of a version: its header, the words of its rows and its pool.
module _ (version rows : ℕ) (words pool : List ℕ) (few : rows < 65536) (small : length pool < 4294967296) where
  abbrev bundle : List ℕ
  bundle = header_of version rows (length pool) ++ (word_bytes words ++ pool)

  pub rows_back : bundle_rows bundle ≡ rows
  rows_back = number-bytes 2 rows (omega arith)

  pool-length-back : bundle_pool_length bundle ≡ length pool
  pool-length-back = number-bytes 4 (length pool) (omega arith)

  -- The rows take as many bytes as the version says.
  module _ (fits : row_bytes bundle * rows ≡ 4 * length words) where
    start : row_bytes bundle * bundle_rows bundle ≡ 4 * length words
    start = ap (λ (n : ℕ). row_bytes bundle * n) rows_back ∙ fits

    pub pool-back : bundle_pool bundle ≡ pool
    unfolding bundle_pool
    pool-back =
        ap (λ (n : ℕ). drop (HEADER + n) bundle) start
        ∙ sym (drop-drop (4 * length words) HEADER bundle)
        ∙ rest-written words pool

    written-agrees : bad_lengths bundle ≡ false
    unfolding bad_lengths
    written-agrees =
        let long = length-any version rows words pool in
        let size = pool-length-back in
        let enough : HEADER ≤ length bundle = omega arith in
        let behind = start in
        let same : length bundle ≡ pool_start bundle + bundle_pool_length bundle = omega arith in
        rw (le-ltb (length bundle) HEADER enough, eq-eqb _ _ same) refl

    pub is-bundle : (eqb (bundle_version bundle) VERSION || is_old bundle) ≡ true → bundle_refusal bundle ≡ none
    unfolding bundle_refusal wrong_mark other_version
    is-bundle known =
        let long = length-any version rows words pool in
        rw (le-ltb (length bundle) 5 (omega arith), known, written-agrees) refl

-- The bundle that is written.
module _ (table pool : List ℕ) (can : Writable table pool) where
  new : is_old (write_bundle table pool) ≡ false
  unfolding write_bundle is_old
  new = refl

  known-version : (eqb (bundle_version (write_bundle table pool)) VERSION || is_old (write_bundle table pool)) ≡ true
  unfolding write_bundle is_old
  known-version = refl

  count : WIDTH * row_count table ≡ length table
  count = let whole = can.whole in omega arith

  fits : row_bytes (write_bundle table pool) * row_count table ≡ 4 * length table
  fits =
      let row = new-bytes (write_bundle table pool) new in
      let rows = count in
      ap (λ (n : ℕ). n * row_count table) row ∙ omega arith

  pub written_is : bundle_refusal (write_bundle table pool) ≡ none
  unfolding write_bundle
  written_is = is-bundle VERSION (row_count table) table pool can.rows can.pool_small fits known-version

  table-back : all_of is_word table ≡ true → bundle_table (write_bundle table pool) ≡ table
  unfolding write_bundle
  table-back all =
      let bytes = write_bundle table pool in
      new-table bytes new
      ∙ ap (λ (n : ℕ). words_from n (drop HEADER bytes)) (ap (λ (n : ℕ). WIDTH * n) (rows_back VERSION (row_count table) table pool can.rows can.pool_small) ∙ count)
      ∙ words-written table pool all

  pub written_stands : all_of is_word table ≡ true → StandsFor (write_bundle table pool) table pool
  unfolding write_bundle
  written_stands all =
      record {
        bundle = written_is;
        table_read = table-back all;
        pool_read = pool-back VERSION (row_count table) table pool can.rows can.pool_small fits;
      }

-- The check alone makes a table writable.
pub legal-writable : (table pool : List ℕ) → check_refusal table pool ≡ none → Writable table pool
legal-writable table pool e =
    let size = (unrefused table pool e).size in
    let bound = size.table_bound in
    let small = size.pool_bound in
    record { whole = size.whole; rows = omega arith; pool_small = omega arith }

pub reads-back : ReadsBack
reads-back table pool all e = written_stands table pool (legal-writable table pool e) all

-- The bytes, part by part.
next-part : (bytes : List ℕ) (at size : ℕ) → part bytes at size ++ drop (at + size) bytes ≡ drop at bytes
next-part bytes at size = ap (λ (l : List ℕ). part bytes at size ++ l) (sym (drop-drop size at bytes)) ∙ take-append-drop size (drop at bytes)

parted : (bytes : List ℕ) → take 3 bytes ++ (part bytes 3 2 ++ (part bytes 5 1 ++ (part bytes 6 2 ++ (part bytes 8 4 ++ drop HEADER bytes)))) ≡ bytes
parted bytes =
    ap (λ (l : List ℕ). take 3 bytes ++ (part bytes 3 2 ++ (part bytes 5 1 ++ (part bytes 6 2 ++ l)))) (next-part bytes 8 4)
    ∙ ap (λ (l : List ℕ). take 3 bytes ++ (part bytes 3 2 ++ (part bytes 5 1 ++ l))) (next-part bytes 6 2)
    ∙ ap (λ (l : List ℕ). take 3 bytes ++ (part bytes 3 2 ++ l)) (next-part bytes 5 1)
    ∙ ap (λ (l : List ℕ). take 3 bytes ++ l) (next-part bytes 3 2)
    ∙ take-append-drop 3 bytes

zero-back : (bytes : List ℕ) → HEADER ≤ length bytes → get_or bytes 5 0 ≡ 0 → 0 ∷ [] ≡ part bytes 5 1
zero-back bytes header e = sym (ap (take 1) (drop-cons bytes 5 0 (omega arith)) ∙ ap (λ (b : ℕ). b ∷ []) e)

-- A header and what follows it.
joined :
    (a b c d e f a' b' c' d' e' f' : List ℕ) → a ≡ a' → b ≡ b' → c ≡ c' → d ≡ d' → e ≡ e' → f ≡ f' →
    (a ++ (b ++ (c ++ (d ++ e)))) ++ f ≡ a' ++ (b' ++ (c' ++ (d' ++ (e' ++ f'))))
joined a b c d e f a' b' c' d' e' f' p q r s t u = rw (p, q, r, s, t, u) (simp append_assoc)

-- A bundle is written again from what is read of it.
module _ (bytes : List ℕ) (all : all_of is_byte bytes ≡ true) (refusal : bundle_refusal bytes ≡ none) where
  agreeing : Agreed bytes
  agreeing = bundle-agreed bytes refusal

  pub count-read : row_count (bundle_table bytes) ≡ bundle_rows bytes
  count-read = let long = length-table bytes in omega arith

  marked : take 3 bytes ≡ MARK
  unfolding bundle_refusal wrong_mark
  marked =
      let a = all_none (refused_if (wrong_mark bytes) Refusal.Mark ∷ refused_if (other_version bytes) Refusal.Version ∷ refused_if (bad_lengths bytes) Refusal.Lengths ∷ []) refusal in
      same_bytes-equal (take 3 bytes) MARK (not-false (same_bytes (take 3 bytes) MARK) (not-refused (wrong_mark bytes) Refusal.Mark a.0))

  pub behind-read : (count : ℕ) → 4 * count ≡ row_bytes bytes * bundle_rows bytes → word_bytes (words_from count (drop HEADER bytes)) ++ bundle_pool bytes ≡ drop HEADER bytes
  unfolding bundle_pool
  behind-read count is =
      let rest = drop HEADER bytes in
      let total = agreeing.total in
      let long = length-drop HEADER bytes in
      let place : HEADER + 4 * count ≡ pool_start bytes = omega arith in
      ap (λ (l : List ℕ). word_bytes (words_from count rest) ++ l) (sym (drop-drop (4 * count) HEADER bytes ∙ ap (λ (n : ℕ). drop n bytes) place))
      ∙ words-read count rest (all_drop is_byte HEADER bytes all) (omega arith)

  pub read-written :
      (version : ℕ) → version ≡ bundle_version bytes → (words : List ℕ) → word_bytes words ++ bundle_pool bytes ≡ drop HEADER bytes
      → header_of version (row_count (bundle_table bytes)) (length (bundle_pool bytes)) ++ (word_bytes words ++ bundle_pool bytes) ≡ bytes
  read-written version is words behind =
      let known = agreeing in
      let header = known.header in
      joined _ _ _ _ _ _ _ _ _ _ _ _ (sym marked)
      (number-back bytes 3 2 all (omega arith) version is)
      (zero-back bytes header known.zero_byte)
      (number-back bytes 6 2 all (omega arith) (row_count (bundle_table bytes)) count-read)
      (number-back bytes 8 4 all (omega arith) (length (bundle_pool bytes)) (length-pool bytes known))
      behind
      ∙ parted bytes

pub writes-back : WritesBack
unfolding write_bundle is_old
writes-back bytes all e version =
    let new : is_old bytes ≡ false = ap (λ (n : ℕ). eqb n OLD_VERSION) version in
    let place : 4 * (WIDTH * bundle_rows bytes) ≡ row_bytes bytes * bundle_rows bytes = rw (new-bytes bytes new) (omega arith) in
    read-written bytes all e VERSION (sym version) (bundle_table bytes)
    (ap (λ (t : List ℕ). word_bytes t ++ bundle_pool bytes) (new-table bytes new) ∙ behind-read bytes all e (WIDTH * bundle_rows bytes) place)
