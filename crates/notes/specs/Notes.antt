-- What is noted of each row: eight words.
use Rattle.std.specs.Prelude.{ℕ, ◌+◌, ◌*◌, ◌≤◌, List, length, get_or, set}

abbrev pub NOTES : ℕ
NOTES = 8

-- The numbers of the row's names.
abbrev pub PREFIX : ℕ
PREFIX = 0

abbrev pub LOCAL_NAME : ℕ
LOCAL_NAME = 1

abbrev pub URI : ℕ
URI = 2

abbrev pub VALUE : ℕ
VALUE = 3

-- Links between an element and its declarations, and between it and its attributes.
abbrev pub LATEST : ℕ
LATEST = 4

abbrev pub PREVIOUS : ℕ
PREVIOUS = 5

abbrev pub FIRST : ℕ
FIRST = 6

abbrev pub NEXT : ℕ
NEXT = 7

-- word k of the notes of row r
unfoldable pub note_at : List ℕ → ℕ → ℕ → ℕ
note_at notes r k = get_or notes (NOTES * r + k) 0

-- the notes with this value as word k of row r
unfoldable pub noted : List ℕ → ℕ → ℕ → ℕ → List ℕ
noted notes r k value = set notes (NOTES * r + k) value

-- There are notes for n rows.
abbrev pub HasNotes : List ℕ → ℕ → Type 0
HasNotes notes n = NOTES * n ≤ length notes
