-- Prefixes that are free in scope, and the numbers of NS prefixes.
use Rattle.std.specs.Prelude.{ℕ, ◌+◌, ◌*◌, Bool, cond, ◌&&◌, not, List, set, eqb}
use Rattle.notes.specs.Notes.{PREFIX, note_at}
use Rattle.stacks.specs.Stacks.{NUMBERED, under_at}
use Rattle.bindings.specs.Asking.{top_of}

-- An attribute's prefix is not empty, and is not declared in scope.
abbrev pub is_free : List ℕ → List ℕ → ℕ → Bool
is_free notes tops a = not (eqb (note_at notes a PREFIX) 0) && eqb (top_of notes tops a) 0

-- The number of NSk, the next one where it has none, and the path with that noted.
abbrev pub number_for : List ℕ → ℕ → ℕ → ℕ
number_for path k names = cond (eqb (under_at path NUMBERED k) 0) (names + 1) (under_at path NUMBERED k)

abbrev pub path_for : List ℕ → ℕ → ℕ → List ℕ
path_for path k names = cond (eqb (under_at path NUMBERED k) 0) (set path (4 * k + NUMBERED) (names + 1)) path
