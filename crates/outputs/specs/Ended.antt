-- What is left in the outputs at the end of a normalization.
use Rattle.std.specs.Prelude.{ℕ, ◌*◌, ◌||◌, List, [], ◌∷◌, length, take, ltb, Ok}
use Rattle.std.proofs.Math.Option.{Option}
use Rattle.rules.specs.Table.{WIDTH, MOST_BYTES}
use Rattle.rules.specs.Refusals.{refused_if, first_refusal, unless_refused}
use Rattle.rules.specs.Outputs.{Outcome, padded, refusal}
use Rattle.rules.specs.declared.Refusal.{Refusal}

-- Refusals 10 and 11 of so many rows and bytes, where so many rows are allowed and the output pool has so many bytes.
unfoldable pub room_lack : ℕ → ℕ → ℕ → ℕ → Option Refusal
room_lack limit pool_size rows bytes =
    first_refusal (refused_if (ltb limit rows) Refusal.RowRoom ∷ refused_if (ltb MOST_BYTES bytes || ltb pool_size bytes) Refusal.PoolRoom ∷ [])

-- The result is the first rows of the output table and the first bytes of a working pool.
unfoldable pub completed : List ℕ → ℕ → List ℕ → ℕ → ℕ → Outcome
completed table pool_size work rows bytes =
    record {
      answer = Ok (record { rows = rows; bytes = bytes });
      table = padded (length table) (take (WIDTH * rows) table);
      pool = padded pool_size (take bytes work);
    }

unfoldable pub ended : ℕ → List ℕ → ℕ → List ℕ → ℕ → ℕ → Outcome
ended limit table pool_size work rows bytes =
    unless_refused (room_lack limit pool_size rows bytes) (refusal (length table) pool_size) (completed table pool_size work rows bytes)
