-- A stretch of the pool that repeats itself.
use Rattle.std.specs.Prelude.{ℕ, ◌+◌, ◌≤◌, ◌<◌, ◌≡◌, List, length, get_or}
use Rattle.rules.specs.Table.{part}
use Rattle.packed_index.specs.Index.{START, SIZE, STEP, Repeats, Repeating, stretched}

-- The place lies in the stretch.
abbrev pub Holds : List ℕ → ℕ → ℕ → Type 0
Holds index offset size = (0 < get_or index STEP 0) × (get_or index START 0 ≤ offset) × (offset + size ≤ get_or index START 0 + get_or index STEP 0 + get_or index SIZE 0)

-- A place stands for another: it has as many bytes, and the same, and is not behind it.
abbrev pub First : List ℕ → ℕ → ℕ → ℕ → ℕ → Type 0
First index offset size first size' = (size' ≡ size) × (first ≤ offset) × ((pool : List ℕ) → Repeating index pool → offset + size ≤ length pool → part pool first size ≡ part pool offset size)

-- The index tells of another stretch, or of the one that it told of.
abbrev pub Learned : List ℕ → List ℕ → List ℕ → Type 0
Learned pool index index' = (start : ℕ) × (size : ℕ) × (step : ℕ) × (index' ≡ stretched index start size step) × (Repeating index pool → Repeats pool start size step)
