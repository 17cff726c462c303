-- Numbers as bytes, the lowest first.
use Rattle.std.specs.Prelude.{ℕ, zero, suc, ◌+◌, ◌*◌, ◌/◌, ◌%◌, Bool, List, [], ◌∷◌, take, drop, ltb}
use Rattle.rules.specs.Lists.{gathered}
use Rattle.rules.specs.Table.{part}

-- The number is a byte; it is a word.
abbrev pub is_byte : ℕ → Bool
is_byte b = ltb b 256

abbrev pub is_word : ℕ → Bool
is_word w = ltb w 4294967296

-- A number as so many bytes.
abbrev pub bytes_of : ℕ → ℕ → List ℕ
bytes_of zero n = []
bytes_of (suc size) n = (n % 256) ∷ bytes_of size (n / 256)

-- The number that bytes stand for.
abbrev pub number_of : List ℕ → ℕ
number_of [] = 0
number_of (b ∷ bs) = b + 256 * number_of bs

-- The number that stands in so many bytes from a place on.
abbrev pub number_at : List ℕ → ℕ → ℕ → ℕ
number_at bytes at size = number_of (part bytes at size)

-- Words, four bytes each, and so many words from the start of bytes.
abbrev pub word_bytes : List ℕ → List ℕ
word_bytes words = gathered (bytes_of 4) words

unfoldable pub words_from : ℕ → List ℕ → List ℕ
words_from zero bytes = []
words_from (suc count) bytes = number_of (take 4 bytes) ∷ words_from count (drop 4 bytes)
