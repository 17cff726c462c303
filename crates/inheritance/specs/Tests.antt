-- Tests of one row for what is inherited, by the numbers of names and where the arrays stand.
use Rattle.std.specs.Prelude.{ℕ, ◌+◌, Bool, true, cond, ◌&&◌, not, List, eqb, ltb}
use Rattle.rules.specs.Table.{TYPE, PARENT, DOCUMENT, DECLARATION, word, row_count}
use Rattle.notes.specs.Notes.{LOCAL_NAME, VALUE, note_at}
use Rattle.stacks.specs.Stacks.{PREFIXES, top_at}

-- Row e lies in no other row, or in a document.
abbrev pub is_top : List ℕ → ℕ → Bool
is_top table e = cond (ltb (word table e PARENT) (row_count table)) (eqb (word table (word table e PARENT) TYPE) DOCUMENT) true

-- A declaration with a value that is not row e's, and that is the nearest one of its prefix where the arrays stand.
abbrev pub is_open : List ℕ → List ℕ → List ℕ → ℕ → ℕ → Bool
is_open table notes tops e r =
    eqb (word table r TYPE) DECLARATION
    && ((not (eqb (word table r PARENT) e) && not (eqb (note_at notes r VALUE) 0))
    && eqb (top_at tops PREFIXES (note_at notes r LOCAL_NAME)) (r + 1))
