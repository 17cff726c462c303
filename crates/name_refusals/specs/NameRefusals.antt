-- What a row is refused for its names.
use Rattle.std.specs.Prelude.{ℕ, [], ◌∷◌}
use Rattle.std.proofs.Math.Option.{Option}
use Rattle.rules.specs.Table.{Node}
use Rattle.rules.specs.Refusals.{refused_if, first_refusal, encodings_refusal, bad_names, bad_namespace}
use Rattle.rules.specs.declared.Refusal.{Refusal}

-- what row r is refused for its names: 14, 4, 5
abbrev pub names_refusal : ℕ → Node → Option Refusal
names_refusal r n =
    first_refusal
    (encodings_refusal r n
    ∷ refused_if (bad_names n) (Refusal.Names (record { 0 = r }))
    ∷ refused_if (bad_namespace n) (Refusal.Namespace (record { 0 = r }))
    ∷ [])
