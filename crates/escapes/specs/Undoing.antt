-- RULES 12.2, undoing the escapes: what a reader makes of a value, by XML 1.0 (fifth edition), whose sections and productions
-- are named. The bytes that they speak of are ASCII, so bytes stand for characters.
use Rattle.std.specs.Prelude.{ℕ, ◌+◌, ◌*◌, ◌-◌, ◌≡◌, Bool, true, false, cond, ◌&&◌, ◌||◌, not, List, [], ◌∷◌, ◌++◌, eqb}
use Rattle.std.proofs.Math.Option.{Option, none, some}
use Rattle.rules.specs.Lists.{any_of, is_one_of, ascii, is_empty, same_bytes}
use Rattle.rules.specs.Refusals.{is_between}
use Rattle.rules.specs.Utf8.{sequence}
use Rattle.escapes.specs.Escapes.{escapes, escaped}

-- 2.11, line ends: before anything else a carriage return with the line feed after it, and one without, becomes a line feed.
abbrev pub lines_after : Bool → List ℕ → List ℕ
lines_after returned [] = []
lines_after returned (b ∷ bs) =
    let rest = lines_after (eqb b 13) bs in
    cond (eqb b 13) (10 ∷ rest) (cond (returned && eqb b 10) rest (b ∷ rest))

unfoldable pub lines : List ℕ → List ℕ
lines bytes = lines_after false bytes

-- 4.1, character references in decimal: the number of the digits, after one that was read before them.
abbrev pub number_after : ℕ → List ℕ → Option ℕ
number_after n [] = some n
number_after n (d ∷ ds) = let rest = number_after (10 * n + (d - 48)) ds in cond (is_between 48 57 d) rest none

abbrev pub characters_of : Option ℕ → Option (List ℕ)
characters_of none = none
characters_of (some c) = some (sequence c)

-- 66: # and one or more digits stand for the character of that number.
abbrev pub character_referenced : List ℕ → Option (List ℕ)
character_referenced [] = none
character_referenced (b ∷ digits) =
    cond (eqb b 35 && not (is_empty digits)) (characters_of (number_after 0 digits)) none

-- 68 and 4.6: the five names that every reader knows; or 66. The bytes are those between & and ;
unfoldable pub referenced : List ℕ → Option (List ℕ)
referenced name =
    cond (same_bytes name (ascii "lt")) (some (ascii "<"))
    (cond (same_bytes name (ascii "gt")) (some (ascii ">"))
    (cond (same_bytes name (ascii "amp")) (some (ascii "&"))
    (cond (same_bytes name (ascii "apos")) (some (ascii "'"))
    (cond (same_bytes name (ascii "quot")) (some (34 ∷ []))
    (character_referenced name)))))

-- 14 and 10: the bytes that may stand for themselves, in text all but < and &, in quotes all but < and & and "; in text no > is
-- taken either, which 14 only forbids behind ]].
unfoldable pub is_bare : Bool → ℕ → Bool
is_bare quoted b = not (is_one_of (60 ∷ 38 ∷ cond quoted 34 62 ∷ []) b)

-- 3.3.3: in quotes white space that stands for itself is a space.
unfoldable pub kept : Bool → ℕ → ℕ
kept quoted b = cond (quoted && is_one_of (9 ∷ 10 ∷ 13 ∷ []) b) 32 b

abbrev pub before : List ℕ → Option (List ℕ) → Option (List ℕ)
before bytes none = none
before bytes (some rest) = some (bytes ++ rest)

abbrev pub before_if : Option (List ℕ) → Option (List ℕ) → Option (List ℕ)
before_if none rest = none
before_if (some bytes) rest = before bytes rest

-- The value that the bytes stand for; none: they are no value. Behind & the bytes of the reference so far are at hand.
abbrev pub read_after : Bool → Option (List ℕ) → List ℕ → Option (List ℕ)
read_after quoted none [] = some []
read_after quoted (some name) [] = none
read_after quoted none (b ∷ bs) =
    cond (eqb b 38) (read_after quoted (some []) bs)
    (cond (is_bare quoted b) (before (kept quoted b ∷ []) (read_after quoted none bs)) none)
read_after quoted (some name) (b ∷ bs) =
    cond (eqb b 59) (before_if (referenced name) (read_after quoted none bs)) (read_after quoted (some (name ++ b ∷ [])) bs)

unfoldable pub read_value : Bool → List ℕ → Option (List ℕ)
read_value quoted bytes = read_after quoted none bytes

-- Undoing the escapes gives the value back.
abbrev pub Undone : Type 0
Undone = (quoted : Bool) (value : List ℕ) → read_value quoted (lines (escaped quoted value)) ≡ some value

-- The bytes start with these.
abbrev pub starts_with : List ℕ → List ℕ → Bool
starts_with [] bytes = true
starts_with (x ∷ xs) [] = false
starts_with (x ∷ xs) (b ∷ bs) = eqb x b && starts_with xs bs

-- No byte is " or <, and every & starts an escape.
abbrev pub nothing_bare : List ℕ → Bool
nothing_bare [] = true
nothing_bare (b ∷ bs) =
    not (is_one_of (34 ∷ 60 ∷ []) b)
    && (not (eqb b 38) || any_of (λ (e : ℕ × List ℕ). starts_with e.1 (b ∷ bs)) (escapes true))
    && nothing_bare bs

-- No written value holds a bare ", < or &.
abbrev pub NothingBare : Type 0
NothingBare = (quoted : Bool) (value : List ℕ) → nothing_bare (escaped quoted value) ≡ true
