-- RULES 11.9, session bundles: example A as a bundle of both versions, written, read, damaged and normalized.
-- Each case is what an operation gives, its answer's numbers and then its outputs, and what it should give.
use Rattle.std.specs.Prelude.{ℕ, Bool, true, false, ◌&&◌, List, [], ◌∷◌, ◌++◌, map, take, replicate}
use Rattle.rules.specs.Lists.{all_of, numbers_from, same_bytes}
use Rattle.rules.specs.Table.{NONE}
use Rattle.rules.specs.Answers.{check_number, filled_number, filled_rows, filled_bytes, written_number, written_bytes}
use Rattle.bundles.specs.Bundles.{write_bundle}
use Rattle.rules.specs.Outputs.{Outcome}
use Rattle.bundles.specs.Operations.{WriteOutcome, table_written, bundle_read, bundle_checked, bundle_normalized}

-- The refusal's number, row and word of the check of a bundle.
unfoldable pub check_gives : List ℕ → List ℕ
check_gives bytes =
    (check_number (bundle_checked bytes)).number ∷ (check_number (bundle_checked bytes)).row ∷ (check_number (bundle_checked bytes)).word ∷ []

-- The refusal's number, row and word, the rows and the pool bytes, and the two outputs.
unfoldable pub read_gives : Outcome → List (List ℕ)
read_gives o =
    ((filled_number o.answer).number ∷ (filled_number o.answer).row ∷ (filled_number o.answer).word ∷ filled_rows o.answer ∷ filled_bytes o.answer ∷ [])
    ∷ o.table ∷ o.pool ∷ []

-- The refusal's number, row and word, the bytes, and the output.
unfoldable pub write_gives : WriteOutcome → List (List ℕ)
write_gives o =
    ((written_number o.answer).number ∷ (written_number o.answer).row ∷ (written_number o.answer).word ∷ written_bytes o.answer ∷ []) ∷ o.bytes ∷ []

unfoldable pub same_lists : List (List ℕ) → List (List ℕ) → Bool
same_lists [] [] = true
same_lists [] (y ∷ ys) = false
same_lists (x ∷ xs) [] = false
same_lists (x ∷ xs) (y ∷ ys) = same_bytes x y && same_lists xs ys

pub record Case : Type 0 where
  pub gives : List (List ℕ)
  pub expected : List (List ℕ)

-- Example A: an element `a` with the URI `U`, of a maker.
abbrev table_a : ℕ → List ℕ
table_a maker = 1 ∷ NONE ∷ 0 ∷ 0 ∷ 0 ∷ 1 ∷ 1 ∷ 1 ∷ 0 ∷ 0 ∷ maker ∷ []

abbrev pool_a : List ℕ
pool_a = 97 ∷ 85 ∷ []

-- a word of one byte
abbrev small : ℕ → List ℕ
small w = w ∷ 0 ∷ 0 ∷ 0 ∷ []

-- Example A's row in a bundle, without its maker; the type is a parameter.
abbrev row_a : ℕ → List ℕ
row_a type =
    small type ++ (255 ∷ 255 ∷ 255 ∷ 255 ∷ [])
    ++ small 0 ++ small 0 ++ small 0 ++ small 1 ++ small 1 ++ small 1 ++ small 0 ++ small 0

-- The declaration that normalization appends, without its maker: type 13, owner row 0, value at 1 of length 1.
abbrev declaration_a : List ℕ
declaration_a = small 13 ++ small 0 ++ small 0 ++ small 0 ++ small 0 ++ small 0 ++ small 0 ++ small 0 ++ small 1 ++ small 1

-- The mark, a version, the zero byte, a row count and the pool length 2.
abbrev header_a : ℕ → ℕ → List ℕ
header_a version rows = 78 ∷ 84 ∷ 66 ∷ version ∷ 0 ∷ 0 ∷ rows ∷ 0 ∷ 2 ∷ 0 ∷ 0 ∷ 0 ∷ []

-- Example A in 58 bytes, and as it was written before makers, in 54.
abbrev bundle_a : ℕ → List ℕ
bundle_a maker = header_a 2 1 ++ row_a 1 ++ small maker ++ pool_a

abbrev old_a : List ℕ
old_a = header_a 1 1 ++ row_a 1 ++ pool_a

-- Its normalized form, in 102 bytes, and as it was written before makers.
abbrev normal_a : ℕ → List ℕ
normal_a maker = header_a 2 2 ++ row_a 1 ++ small maker ++ declaration_a ++ small maker ++ pool_a

abbrev old_normal_a : List ℕ
old_normal_a = header_a 1 2 ++ row_a 1 ++ declaration_a ++ pool_a

-- A bundle of one row and two pool bytes with another start.
abbrev damaged : List ℕ → List ℕ
damaged start = start ++ (1 ∷ 0 ∷ 2 ∷ 0 ∷ 0 ∷ 0 ∷ []) ++ row_a 1 ++ small 0 ++ pool_a

unfoldable pub cases : List Case
cases =
    -- the 58 bytes of example A
    record { gives = write_bundle (table_a 0) pool_a ∷ []; expected = bundle_a 0 ∷ [] }
    -- written into 58 bytes, into 60, and into 57
    ∷ record { gives = write_gives (table_written (table_a 0) pool_a 58); expected = (0 ∷ 0 ∷ 0 ∷ 58 ∷ []) ∷ bundle_a 0 ∷ [] }
    ∷ record { gives = write_gives (table_written (table_a 0) pool_a 60); expected = (0 ∷ 0 ∷ 0 ∷ 58 ∷ []) ∷ (bundle_a 0 ++ 0 ∷ 0 ∷ []) ∷ [] }
    ∷ record { gives = write_gives (table_written (table_a 0) pool_a 57); expected = (33 ∷ 0 ∷ 0 ∷ 0 ∷ []) ∷ replicate 57 0 ∷ [] }
    -- 12 words, and 10, and too little room: 1
    ∷ record { gives = write_gives (table_written (table_a 0 ++ 0 ∷ []) pool_a 8); expected = (1 ∷ 0 ∷ 0 ∷ 0 ∷ []) ∷ replicate 8 0 ∷ [] }
    ∷ record { gives = write_gives (table_written (take 10 (table_a 0)) pool_a 8); expected = (1 ∷ 0 ∷ 0 ∷ 0 ∷ []) ∷ replicate 8 0 ∷ [] }
    -- read into one row and two bytes, and into more
    ∷ record { gives = read_gives (bundle_read (bundle_a 0) 11 2); expected = (0 ∷ 0 ∷ 0 ∷ 1 ∷ 2 ∷ []) ∷ table_a 0 ∷ pool_a ∷ [] }
    ∷ record { gives = read_gives (bundle_read (bundle_a 7) 25 3); expected = (0 ∷ 0 ∷ 0 ∷ 1 ∷ 2 ∷ []) ∷ (table_a 7 ++ replicate 14 0) ∷ (pool_a ++ 0 ∷ []) ∷ [] }
    -- the version before makers: maker 0, in each of two rows
    ∷ record { gives = read_gives (bundle_read old_a 11 2); expected = (0 ∷ 0 ∷ 0 ∷ 1 ∷ 2 ∷ []) ∷ table_a 0 ∷ pool_a ∷ [] }
    ∷ record { gives = read_gives (bundle_read old_normal_a 22 2); expected = (0 ∷ 0 ∷ 0 ∷ 2 ∷ 2 ∷ []) ∷ (table_a 0 ++ 13 ∷ 0 ∷ 0 ∷ 0 ∷ 0 ∷ 0 ∷ 0 ∷ 0 ∷ 1 ∷ 1 ∷ 0 ∷ []) ∷ pool_a ∷ [] }
    -- one word too few: 10, also where the pool is too short, and where the bundle has ten words a row; one byte too few: 11
    ∷ record { gives = read_gives (bundle_read (bundle_a 0) 10 1); expected = (10 ∷ 0 ∷ 0 ∷ 0 ∷ 0 ∷ []) ∷ replicate 10 0 ∷ replicate 1 0 ∷ [] }
    ∷ record { gives = read_gives (bundle_read old_a 10 2); expected = (10 ∷ 0 ∷ 0 ∷ 0 ∷ 0 ∷ []) ∷ replicate 10 0 ∷ replicate 2 0 ∷ [] }
    ∷ record { gives = read_gives (bundle_read (bundle_a 0) 11 1); expected = (11 ∷ 0 ∷ 0 ∷ 0 ∷ 0 ∷ []) ∷ replicate 11 0 ∷ replicate 1 0 ∷ [] }
    -- the check of the bundle, and of its first 0 to 57 bytes: 30 before 3 bytes, 31 before 5, then 32
    ∷ record { gives = check_gives (bundle_a 0) ∷ []; expected = (0 ∷ 0 ∷ 0 ∷ []) ∷ [] }
    ∷ record { gives = map (λ (n : ℕ). check_gives (take n (bundle_a 0))) (numbers_from 0 3); expected = replicate 3 (30 ∷ 0 ∷ 0 ∷ []) }
    ∷ record { gives = map (λ (n : ℕ). check_gives (take n (bundle_a 0))) (numbers_from 3 2); expected = replicate 2 (31 ∷ 0 ∷ 0 ∷ []) }
    ∷ record { gives = map (λ (n : ℕ). check_gives (take n (bundle_a 0))) (numbers_from 5 53); expected = replicate 53 (32 ∷ 0 ∷ 0 ∷ []) }
    -- one byte more
    ∷ record { gives = check_gives (bundle_a 0 ++ 0 ∷ []) ∷ []; expected = (32 ∷ 0 ∷ 0 ∷ []) ∷ [] }
    -- the same of the version before makers
    ∷ record { gives = check_gives old_a ∷ check_gives (take 53 old_a) ∷ check_gives (old_a ++ 0 ∷ []) ∷ []; expected = (0 ∷ 0 ∷ 0 ∷ []) ∷ replicate 2 (32 ∷ 0 ∷ 0 ∷ []) }
    -- the rows of one version under the number of the other: lengths that disagree
    ∷ record { gives = check_gives (header_a 1 1 ++ row_a 1 ++ small 0 ++ pool_a) ∷ check_gives (header_a 2 1 ++ row_a 1 ++ pool_a) ∷ []; expected = replicate 2 (32 ∷ 0 ∷ 0 ∷ []) }
    -- another mark; versions 0 and 3, and 1 and 2 with their high byte first; a zero byte that is 1
    ∷ record { gives = check_gives (damaged (78 ∷ 84 ∷ 67 ∷ 2 ∷ 0 ∷ 0 ∷ [])) ∷ []; expected = (30 ∷ 0 ∷ 0 ∷ []) ∷ [] }
    ∷ record { gives = check_gives (damaged (78 ∷ 84 ∷ 66 ∷ 0 ∷ 0 ∷ 0 ∷ [])) ∷ check_gives (damaged (78 ∷ 84 ∷ 66 ∷ 3 ∷ 0 ∷ 0 ∷ [])) ∷ []; expected = replicate 2 (31 ∷ 0 ∷ 0 ∷ []) }
    ∷ record { gives = check_gives (damaged (78 ∷ 84 ∷ 66 ∷ 0 ∷ 1 ∷ 0 ∷ [])) ∷ check_gives (damaged (78 ∷ 84 ∷ 66 ∷ 0 ∷ 2 ∷ 0 ∷ [])) ∷ []; expected = replicate 2 (31 ∷ 0 ∷ 0 ∷ []) }
    ∷ record { gives = check_gives (damaged (78 ∷ 84 ∷ 66 ∷ 2 ∷ 0 ∷ 1 ∷ [])) ∷ []; expected = (32 ∷ 0 ∷ 0 ∷ []) ∷ [] }
    -- the first of several faults: all three, the last two, and an unknown type, alone and in a bundle that is cut
    ∷ record { gives = check_gives (damaged (110 ∷ 84 ∷ 66 ∷ 3 ∷ 0 ∷ 1 ∷ [])) ∷ []; expected = (30 ∷ 0 ∷ 0 ∷ []) ∷ [] }
    ∷ record { gives = check_gives (damaged (78 ∷ 84 ∷ 66 ∷ 3 ∷ 0 ∷ 1 ∷ [])) ∷ []; expected = (31 ∷ 0 ∷ 0 ∷ []) ∷ [] }
    ∷ record { gives = check_gives (header_a 2 1 ++ row_a 99 ++ small 0 ++ pool_a) ∷ []; expected = (2 ∷ 0 ∷ 0 ∷ []) ∷ [] }
    ∷ record { gives = check_gives (take 57 (header_a 2 1 ++ row_a 99 ++ small 0 ++ pool_a)) ∷ []; expected = (32 ∷ 0 ∷ 0 ∷ []) ∷ [] }
    -- a pool of one byte: the URI, whose offset is word 6, runs past it
    ∷ record { gives = check_gives ((78 ∷ 84 ∷ 66 ∷ 2 ∷ 0 ∷ 0 ∷ 1 ∷ 0 ∷ 1 ∷ 0 ∷ 0 ∷ 0 ∷ []) ++ row_a 1 ++ small 0 ++ 97 ∷ []) ∷ []; expected = (3 ∷ 0 ∷ 6 ∷ []) ∷ [] }
    -- normalized into exactly enough bytes, into more, and into one too few; the added declaration has the element's maker
    ∷ record { gives = write_gives (bundle_normalized (bundle_a 0) 102); expected = (0 ∷ 0 ∷ 0 ∷ 102 ∷ []) ∷ normal_a 0 ∷ [] }
    ∷ record { gives = write_gives (bundle_normalized (bundle_a 7) 105); expected = (0 ∷ 0 ∷ 0 ∷ 102 ∷ []) ∷ (normal_a 7 ++ 0 ∷ 0 ∷ 0 ∷ []) ∷ [] }
    ∷ record { gives = write_gives (bundle_normalized (bundle_a 0) 101); expected = (33 ∷ 0 ∷ 0 ∷ 0 ∷ []) ∷ replicate 101 0 ∷ [] }
    -- a bundle that is cut is not normalized
    ∷ record { gives = write_gives (bundle_normalized (take 57 (bundle_a 0)) 102); expected = (32 ∷ 0 ∷ 0 ∷ 0 ∷ []) ∷ replicate 102 0 ∷ [] }
    -- the version before makers is normalized into the one that is written: 102 bytes of 54; also where nothing is repaired
    ∷ record { gives = write_gives (bundle_normalized old_a 102); expected = (0 ∷ 0 ∷ 0 ∷ 102 ∷ []) ∷ normal_a 0 ∷ [] }
    ∷ record { gives = write_gives (bundle_normalized old_a 101); expected = (33 ∷ 0 ∷ 0 ∷ 0 ∷ []) ∷ replicate 101 0 ∷ [] }
    ∷ record { gives = write_gives (bundle_normalized old_normal_a 102); expected = (0 ∷ 0 ∷ 0 ∷ 102 ∷ []) ∷ normal_a 0 ∷ [] }
    ∷ []

-- Every case comes out as it should.
unfoldable pub all_pass : Bool
all_pass = all_of (λ (c : Case). same_lists c.gives c.expected) cases
