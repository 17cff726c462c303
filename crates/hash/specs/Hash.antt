-- The hash of a name, as the code computes it. Nothing is asked of it but that equal names have one hash.
use Rattle.std.specs.Prelude.{ℕ, zero, suc, ◌+◌, ◌-◌, ◌*◌, ◌/◌, ◌%◌, cond, List, eqb, leb, ltb, length, get_or}

-- the four bytes from i on as a number
abbrev pub four : List ℕ → ℕ → ℕ
four name i = get_or name i 0 + 256 * get_or name (i + 1) 0 + 65536 * get_or name (i + 2) 0 + 16777216 * get_or name (i + 3) 0

-- eight bytes, in two halves, mixed into a hash
abbrev pub mixed : ℕ → ℕ → ℕ → ℕ
mixed h low high =
    let product = (h + low) * 668265263 + high * 374761393 in
    (product + product / 4294967296) % 4294967296

-- the first k eights mixed into a hash, the last of them first
unfoldable pub mixed_down : List ℕ → ℕ → ℕ → ℕ
mixed_down name zero h = h
mixed_down name (suc k) h = mixed_down name k (mixed h (four name (8 * k)) (four name (8 * k + 4)))

-- a name of eight bytes or more: its last eight, and then those before them, counted from the start
unfoldable pub mixed_long : List ℕ → ℕ
mixed_long name = mixed_down name ((length name - 1) / 8) (mixed (length name % 65536) (four name (length name - 8)) (four name (length name - 4)))

-- a name of less: its first four and its last four, or each of up to three bytes
unfoldable pub mixed_short : List ℕ → ℕ
mixed_short name =
    cond (leb 4 (length name)) (mixed (length name) (four name 0) (four name (length name - 4)))
    (cond (eqb (length name) 0) 0
    (mixed (length name) (get_or name 0 0 + 256 * get_or name (length name / 2) 0 + 65536 * get_or name (length name - 1) 0) 0))

unfoldable pub hash_of : List ℕ → ℕ
hash_of name = cond (ltb (length name) 8) (mixed_short name) (mixed_long name) / 65536 % 65536
