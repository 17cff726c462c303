-- What normalization asks of its input.
use Rattle.std.specs.Prelude.{ℕ, List, [], ◌∷◌}
use Rattle.std.proofs.Math.Option.{Option}
use Rattle.rules.specs.Table.{nodes}
use Rattle.rules.specs.Refusals.{first_refusal, check_refusal}
use Rattle.rules.specs.Normalization.{level1_refusal}
use Rattle.rules.specs.declared.Refusal.{Refusal}

-- The refusals that the input draws, whatever its result: the check's, and then 9.
unfoldable pub input_refusal : List ℕ → List ℕ → Option Refusal
input_refusal table pool = first_refusal (check_refusal table pool ∷ level1_refusal (nodes table pool) ∷ [])
