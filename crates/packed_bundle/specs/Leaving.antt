-- What a call answers and leaves in the output bytes.
use Rattle.std.specs.Prelude.{ℕ, ◌≡◌, List, Result}
use Rattle.bundles.specs.Operations.{WriteOutcome}
use Rattle.rules.specs.declared.Refusal.{Refusal}

-- It is this outcome.
abbrev pub Leaves : WriteOutcome → Result ℕ Refusal → List ℕ → Type 0
Leaves outcome answer out = (answer ≡ outcome.answer) × (out ≡ outcome.bytes)
