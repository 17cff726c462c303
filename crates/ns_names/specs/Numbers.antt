-- The number of an NS prefix, read from its bytes.
use Rattle.std.specs.Prelude.{ℕ, ◌+◌, ◌-◌, ◌*◌, Bool, cond, ◌&&◌, ◌||◌, List, [], ◌∷◌, take, drop, ltb, leb}
use Rattle.rules.specs.Lists.{ascii, same_bytes}

-- The byte is a digit that may follow the digits of a number: no leading zero, no fifth digit.
abbrev pub follows : ℕ → ℕ → Bool
follows front b = leb 48 b && leb b 57 && ltb front 1000 && (ltb 0 front || ltb 48 b)

-- The number of these digits after a number to their left; 0 if one of them may not follow.
unfoldable pub read_after : ℕ → List ℕ → ℕ
read_after front [] = front
read_after front (b ∷ bs) =
    let rest = read_after (front * 10 + (b - 48)) bs in
    cond (follows front b) rest 0

-- The k from 1 to 9999 of the name NSk, or 0.
unfoldable pub number_of : List ℕ → ℕ
number_of name = cond (same_bytes (take 2 name) (ascii "NS")) (read_after 0 (drop 2 name)) 0
