-- What is asked of the path of scopes for a row, by the numbers of its names.
use Rattle.std.specs.Prelude.{ℕ, ◌+◌, ◌-◌, ◌*◌, ◌≤◌, ◌<◌, Bool, true, false, cond, ◌&&◌, ◌||◌, not, List, ◌≡◌, length, eqb}
use Rattle.rules.specs.Table.{PARENT, word}
use Rattle.notes.specs.Notes.{NOTES, PREFIX, URI, note_at}
use Rattle.stacks.specs.Stacks.{TOPS, PATH, PREFIXES, NUMBERED, top_at, under_at, value_at}
use Rattle.bindings.specs.Spelled.{number_at}

-- The nearest declaration of row r's prefix, 0 where there is none; and the number of its value.
abbrev pub top_of : List ℕ → List ℕ → ℕ → ℕ
top_of notes tops r = top_at tops PREFIXES (note_at notes r PREFIX)

-- Row r has the URI that its prefix stands for, by numbers.
abbrev pub agrees : List ℕ → List ℕ → ℕ → Bool
agrees notes tops r = eqb (number_at (value_at notes) (top_of notes tops r)) (note_at notes r URI)

-- An element with these notes means its URI; an attribute does, or has no URI.
unfoldable pub element_settled : List ℕ → List ℕ → List ℕ → ℕ → Bool
element_settled notes tops path r = agrees notes tops r || eqb (note_at notes r PREFIX) (under_at path NUMBERED 0)

unfoldable pub attribute_settled : List ℕ → List ℕ → List ℕ → ℕ → Bool
attribute_settled notes tops path r =
    cond (eqb (note_at notes r URI) 0) true (cond (eqb (note_at notes r PREFIX) 0) false (element_settled notes tops path r))

-- Row r and the declaration of its prefix have their notes, and its prefix has a top.
pub record Asked (notes tops path : List ℕ) (r : ℕ) : Type 0 where
  pub row : NOTES * r + NOTES ≤ length notes
  pub prefix : TOPS * note_at notes r PREFIX + TOPS ≤ length tops
  pub xml : PATH ≤ length path
  pub top : NOTES * top_of notes tops r ≤ length notes

-- The declaration of row e's prefix, if it is e's own; else 0.
unfoldable pub own_top : List ℕ → List ℕ → List ℕ → ℕ → ℕ
own_top table notes tops e = cond (not (eqb (top_of notes tops e) 0) && eqb (word table (top_of notes tops e - 1) PARENT) e) (top_of notes tops e) 0

-- The name NSk has a number, and that one a declaration.
unfoldable pub is_used : List ℕ → List ℕ → ℕ → Bool
is_used tops path k = not (eqb (number_at (top_at tops PREFIXES) (under_at path NUMBERED k)) 0)

-- A search from a number ends at one that is not used, or before.
pub record Searched (tops path : List ℕ) (from last : ℕ) : Type 0 where
  pub low : from ≤ last
  pub free : is_used tops path last ≡ false
  pub placed : PATH * last + PATH ≤ length path
  pub topped : (k : ℕ) → k ≤ last → TOPS * under_at path NUMBERED k + TOPS ≤ length tops
  pub small : last < 65535

-- The least number from another on that is not used.
pub record LeastUnused (tops path : List ℕ) (from k : ℕ) : Type 0 where
  pub low : from ≤ k
  pub free : is_used tops path k ≡ false
  pub used : (j : ℕ) → from ≤ j → j < k → is_used tops path j ≡ true
