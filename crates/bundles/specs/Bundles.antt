-- RULES 11.1 to 11.3, the session bundle: a node table and its pool as bytes, in this order: the mark, the version, a zero byte, the
-- row count, the pool length, the rows, the pool, and nothing after. Numbers are little-endian throughout.
use Rattle.std.specs.Prelude.{ℕ, zero, suc, ◌+◌, ◌*◌, Bool, cond, ◌||◌, not, List, [], ◌∷◌, ◌++◌, length, get_or, take, drop, eqb, ltb}
use Rattle.std.proofs.Math.Option.{Option}
use Rattle.rules.specs.Lists.{ascii, same_bytes}
use Rattle.rules.specs.Table.{WIDTH, row_count}
use Rattle.rules.specs.Refusals.{refused_if, first_refusal}
use Rattle.rules.specs.declared.Refusal.{Refusal}
use Rattle.little_endian.specs.Numbers.{bytes_of, number_at, word_bytes, words_from}

abbrev pub MARK : List ℕ
MARK = ascii "NTB"

-- The version that is written, and the one before rows had makers; both are read.
abbrev pub VERSION : ℕ
VERSION = 2

abbrev pub OLD_VERSION : ℕ
OLD_VERSION = 1

-- How many bytes stand before the rows, and how many a row takes.
abbrev pub HEADER : ℕ
HEADER = 12

abbrev pub ROW_BYTES : ℕ
ROW_BYTES = 4 * WIDTH

-- Before makers a row had ten words.
abbrev pub OLD_WIDTH : ℕ
OLD_WIDTH = 10

abbrev pub OLD_ROW_BYTES : ℕ
OLD_ROW_BYTES = 4 * OLD_WIDTH

-- The bytes before the rows: the mark, a version, a zero byte, the row count and the pool length; and those that are written.
abbrev pub header_of : ℕ → ℕ → ℕ → List ℕ
header_of version rows bytes = MARK ++ (bytes_of 2 version ++ ((0 ∷ []) ++ (bytes_of 2 rows ++ bytes_of 4 bytes)))

abbrev pub header_bytes : ℕ → ℕ → List ℕ
header_bytes = header_of VERSION

-- The bundle of a table and its pool.
unfoldable pub write_bundle : List ℕ → List ℕ → List ℕ
write_bundle table pool = header_bytes (row_count table) (length pool) ++ (word_bytes table ++ pool)

-- The version, the row count and the pool length that a bundle names.
abbrev pub bundle_version : List ℕ → ℕ
bundle_version bytes = number_at bytes 3 2

abbrev pub bundle_rows : List ℕ → ℕ
bundle_rows bytes = number_at bytes 6 2

abbrev pub bundle_pool_length : List ℕ → ℕ
bundle_pool_length bytes = number_at bytes 8 4

-- It is of the version before makers.
unfoldable pub is_old : List ℕ → Bool
is_old bytes = eqb (bundle_version bytes) OLD_VERSION

-- How many bytes a row of a bundle takes, by its version, and where the pool behind its rows starts.
unfoldable pub row_bytes : List ℕ → ℕ
row_bytes bytes = cond (is_old bytes) OLD_ROW_BYTES ROW_BYTES

abbrev pub pool_start : List ℕ → ℕ
pool_start bytes = HEADER + row_bytes bytes * bundle_rows bytes

-- 30: another mark, or the bytes end before it is whole.
unfoldable pub wrong_mark : List ℕ → Bool
wrong_mark bytes = not (same_bytes (take 3 bytes) MARK)

-- 31: the bytes end before the version is whole, or it is another.
unfoldable pub other_version : List ℕ → Bool
other_version bytes = ltb (length bytes) 5 || not (eqb (bundle_version bytes) VERSION || is_old bytes)

-- 32: the bytes end before the rows; a zero byte that isn't zero; lengths that disagree.
unfoldable pub bad_lengths : List ℕ → Bool
bad_lengths bytes =
    ltb (length bytes) HEADER || not (eqb (get_or bytes 5 0) 0)
    || not (eqb (length bytes) (pool_start bytes + bundle_pool_length bytes))

-- What bytes are refused for that are no bundle.
unfoldable pub bundle_refusal : List ℕ → Option Refusal
bundle_refusal bytes =
    first_refusal
    (refused_if (wrong_mark bytes) Refusal.Mark
    ∷ refused_if (other_version bytes) Refusal.Version
    ∷ refused_if (bad_lengths bytes) Refusal.Lengths
    ∷ [])

-- The words of so many rows from before makers as rows of a table: each gets the maker 0.
unfoldable pub widened : ℕ → List ℕ → List ℕ
widened zero words = []
widened (suc rows) words = take OLD_WIDTH words ++ (0 ∷ widened rows (drop OLD_WIDTH words))

-- The table and the pool that a bundle stands for.
unfoldable pub bundle_table : List ℕ → List ℕ
bundle_table bytes =
    cond (is_old bytes)
    (widened (bundle_rows bytes) (words_from (OLD_WIDTH * bundle_rows bytes) (drop HEADER bytes)))
    (words_from (WIDTH * bundle_rows bytes) (drop HEADER bytes))

unfoldable pub bundle_pool : List ℕ → List ℕ
bundle_pool bytes = drop (pool_start bytes) bytes
