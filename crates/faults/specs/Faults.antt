-- What one row is refused for by itself, and what of that before its names are read.
use Rattle.std.specs.Prelude.{ℕ, List, [], ◌∷◌, length}
use Rattle.std.proofs.Math.Option.{Option}
use Rattle.rules.specs.Table.{nodes, node_at}
use Rattle.rules.specs.Refusals.{refused_if, first_refusal, bad_structure, fields_refusal, faults}
use Rattle.rules.specs.declared.Refusal.{Refusal}

-- the first fault of row r
abbrev pub fault_refusal : List ℕ → List ℕ → ℕ → Option Refusal
fault_refusal table pool r = first_refusal (faults (nodes table pool) (length pool) r)

-- what row r is refused for before its names are read: 2, then 3, 12 and 13
abbrev pub place_refusal : List ℕ → List ℕ → ℕ → Option Refusal
place_refusal table pool r =
    first_refusal
    (refused_if (bad_structure (nodes table pool) r) (Refusal.Structure (record { 0 = r }))
    ∷ fields_refusal (length pool) r (node_at table pool r)
    ∷ [])
