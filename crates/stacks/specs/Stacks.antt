-- The arrays that hold a scope. `tops` has three words for each number of a name: the nearest position whose prefix has the number, the
-- nearest one whose value has it, and how many positions serve it. `path` has four words for each position: what was nearest for its
-- prefix and for its value before it was pushed, the position pushed before it, and a word that is not the scope's. Record 0 of `path`
-- has the newest position.
use Rattle.std.specs.Prelude.{ℕ, ◌+◌, ◌-◌, ◌*◌, ◌%◌, ◌≤◌, ◌<◌, ◌≡◌, cond, List, [], ◌∷◌, eqb, length, get_or, set}
use Rattle.notes.specs.Notes.{NOTES, LOCAL_NAME, VALUE, note_at}
use Rattle.stacks.specs.Scopes.{nearest, serving, Each}

-- how many words a number has in `tops`
abbrev pub TOPS : ℕ
TOPS = 3

-- and a position in `path`
abbrev pub PATH : ℕ
PATH = 4

-- The words of a number in `tops`, and of a position in `path`. The first two are those of both.
abbrev pub PREFIXES : ℕ
PREFIXES = 0

abbrev pub VALUES : ℕ
VALUES = 1

-- of a number alone
abbrev pub COUNTS : ℕ
COUNTS = 2

-- of a position alone
abbrev pub BELOW : ℕ
BELOW = 2

-- the word that is not the scope's
abbrev pub NUMBERED : ℕ
NUMBERED = 3

abbrev pub top_at : List ℕ → ℕ → ℕ → ℕ
top_at tops k n = get_or tops (TOPS * n + k) 0

abbrev pub under_at : List ℕ → ℕ → ℕ → ℕ
under_at path k d = get_or path (PATH * d + k) 0

-- the numbers of a declaration's prefix, which is its local name, and of its value
abbrev pub prefix_at : List ℕ → ℕ → ℕ
prefix_at notes d = note_at notes (d - 1) LOCAL_NAME

abbrev pub value_at : List ℕ → ℕ → ℕ
value_at notes d = note_at notes (d - 1) VALUE

-- Under each position of the scope lies the nearest one below it of the same key.
abbrev pub Stacked : (ℕ → ℕ) → (ℕ → ℕ) → List ℕ → Type 0
Stacked key under [] = Unit {0}
Stacked key under (d ∷ scope) = (under d ≡ nearest key scope (key d)) × Stacked key under scope

-- The stacks of one kind of number: on top of each the nearest position of that key.
pub record Covers (key top under : ℕ → ℕ) (scope : List ℕ) : Type 0 where
  pub tops : (n : ℕ) → top n ≡ nearest key scope n
  pub unders : Stacked key under scope

-- The position has its words in the arrays, and so have its numbers.
pub record Inside (notes tops path : List ℕ) (d : ℕ) : Type 0 where
  pub row : 0 < d
  pub small : d < 65536
  pub noted : NOTES * d ≤ length notes
  pub placed : PATH * d + PATH ≤ length path
  pub prefix : TOPS * prefix_at notes d + TOPS ≤ length tops
  pub value : TOPS * value_at notes d + TOPS ≤ length tops

-- and the same of 0, which is none
abbrev pub NoneOrInside : List ℕ → List ℕ → List ℕ → ℕ → Type 0
NoneOrInside notes tops path d = 0 < d → Inside notes tops path d

-- The arrays hold the scope.
pub record On (notes tops path scope : List ℕ) : Type 0 where
  pub prefixes : Covers (prefix_at notes) (top_at tops PREFIXES) (under_at path PREFIXES) scope
  pub values : Covers (value_at notes) (top_at tops VALUES) (under_at path VALUES) scope
  pub counts : (n : ℕ) → top_at tops COUNTS n ≡ length (serving (prefix_at notes) (value_at notes) scope n)
  pub newest : under_at path BELOW 0 ≡ nearest (λ d. 0) scope 0
  pub below : Stacked (λ d. 0) (under_at path BELOW) scope
  pub inside : Each (Inside notes tops path) scope

-- They hold a scope, which is not too long to be walked.
pub record Held (notes tops path : List ℕ) : Type 0 where
  pub scope : List ℕ
  pub on : On notes tops path scope
  pub few : length scope ≤ length path * length path

-- The word that is not the scope's, of each position, is what it was.
abbrev pub Untouched : List ℕ → List ℕ → Type 0
Untouched path path' = (k : ℕ) → under_at path' NUMBERED k ≡ under_at path NUMBERED k

-- One more or one less serves a number: this is added, modulo 65536.
abbrev pub MORE : ℕ
MORE = 1

abbrev pub LESS : ℕ
LESS = 65535

-- the tops after that for the value of position d; 0 is none
abbrev pub counted : List ℕ → List ℕ → ℕ → ℕ → List ℕ
counted notes tops d step =
    cond (eqb d 0) tops (set tops (TOPS * value_at notes d + COUNTS) ((top_at tops COUNTS (value_at notes d) + step) % 65536))

-- the tops after one position serves in place of another one; of an empty prefix none does
abbrev pub replaced : List ℕ → List ℕ → ℕ → ℕ → ℕ → List ℕ
replaced notes tops prefix old new = cond (eqb prefix 0) tops (counted notes (counted notes tops old LESS) new MORE)
