-- The pass over the rows of a table: what they are refused for.
use Rattle.std.specs.Prelude.{ℕ, List, length}
use Rattle.std.proofs.Math.Option.{Option}
use Rattle.rules.specs.Table.{row_count, nodes}
use Rattle.rules.specs.Refusals.{row_refusal, lowest_refusal}
use Rattle.rules.specs.declared.Refusal.{Refusal}

-- what row r is refused for
abbrev pub refusal_at : List ℕ → List ℕ → ℕ → Option Refusal
refusal_at table pool = row_refusal (nodes table pool) (length pool)

-- what the rows are refused for
abbrev pub rows_refusal : List ℕ → List ℕ → Option Refusal
rows_refusal table pool = lowest_refusal (refusal_at table pool) (row_count table)
