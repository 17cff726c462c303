-- The size of a small table and of a short pool.
use Rattle.std.specs.Prelude.{ℕ}

-- the rows of a small table
abbrev pub FEW_ROWS : ℕ
FEW_ROWS = 64

-- the bytes of a short pool
abbrev pub FEW_BYTES : ℕ
FEW_BYTES = 4096
