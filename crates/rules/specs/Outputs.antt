-- What an operation answers and leaves in the output table and the output pool that it fills.
use Rattle.std.specs.Prelude.{ℕ, ◌-◌, List, ◌++◌, length, replicate, Result, Ok, Err}
use Rattle.rules.specs.declared.Refusal.{Refusal}
use Rattle.rules.specs.declared.Filled.{Filled}

pub record Outcome : Type 0 where
  pub answer : Result Filled Refusal
  pub table : List ℕ
  pub pool : List ℕ

-- A buffer of a size that starts with the list; the rest is zero.
unfoldable pub padded : ℕ → List ℕ → List ℕ
padded size l = l ++ replicate (size - length l) 0

-- A refused operation leaves its outputs all zero.
unfoldable pub refusal : ℕ → ℕ → Refusal → Outcome
refusal table_size pool_size x = record { answer = Err x; table = replicate table_size 0; pool = replicate pool_size 0 }

-- One that is done leaves so many rows in the words of a table, and a pool.
abbrev pub filled : ℕ → ℕ → ℕ → List ℕ → List ℕ → Outcome
filled table_size pool_size rows table pool =
    record { answer = Ok (record { rows = rows; bytes = length pool }); table = padded table_size table; pool = padded pool_size pool }
