-- RULES 12.5, refusal 21: the characters that a value may not hold.
use Rattle.std.specs.Prelude.{ℕ, Bool, false, ◌&&◌, ◌||◌, not, List, [], ◌∷◌, eqb, ltb}
use Rattle.rules.specs.Lists.{any_of, is_one_of}
use Rattle.rules.specs.Utf8.{decoded}

-- Below 32, other than tab, line feed and carriage return.
abbrev pub is_control : ℕ → Bool
is_control c = ltb c 32 && not (is_one_of (9 ∷ 10 ∷ 13 ∷ []) c)

-- A byte below 32 other than tab, line feed and carriage return, or U+FFFE or U+FFFF. In well-formed UTF-8 such a byte is a
-- character.
abbrev pub is_forbidden : ℕ → Bool
is_forbidden c = is_control c || is_one_of (0xFFFE ∷ 0xFFFF ∷ []) c

unfoldable pub holds_forbidden : List ℕ → Bool
holds_forbidden value = any_of is_forbidden (decoded value)

-- The same by bytes: the sequences of U+FFFE and U+FFFF are 0xEF, 0xBF and one of these two.
abbrev pub is_last : List ℕ → Bool
is_last [] = false
is_last (b ∷ bs) = is_one_of (0xBE ∷ 0xBF ∷ []) b

abbrev pub is_second : List ℕ → Bool
is_second [] = false
is_second (b ∷ bs) = eqb b 0xBF && is_last bs

abbrev pub starts_forbidden : List ℕ → Bool
starts_forbidden [] = false
starts_forbidden (b ∷ bs) = is_control b || (eqb b 0xEF && is_second bs)

unfoldable pub forbidden_from : List ℕ → Bool
forbidden_from [] = false
forbidden_from (b ∷ bs) = starts_forbidden (b ∷ bs) || forbidden_from bs

-- No forbidden character starts with this byte, whatever follows it.
abbrev pub is_harmless : ℕ → Bool
is_harmless b = not (is_control b) && not (eqb b 0xEF)
