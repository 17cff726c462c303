-- What is answered of a table that is salvaged before the outputs are looked at.
use Rattle.std.specs.Prelude.{ℕ, ◌≤◌, ◌≡◌, List, length, Result, Ok, Err}
use Rattle.std.proofs.Math.Option.{none}
use Rattle.rules.specs.Table.{row_count, nodes}
use Rattle.rules.specs.Refusals.{unless_refused}
use Rattle.salvage.specs.Salvage.{salvaged_nodes, drops, fault_refusal}
use Rattle.fates.specs.Fates.{Fated}
use Rattle.rules.specs.declared.Refusal.{Refusal}
use Rattle.rules.specs.declared.Salvaged.{Salvaged}

unfoldable pub decided : List ℕ → List ℕ → Result Salvaged Refusal
decided table pool =
    unless_refused (fault_refusal table pool) Err
    (Ok (record { rows = length (salvaged_nodes (nodes table pool)); dropped = length (drops (nodes table pool)) }))

-- It is answered, and the fates of all rows are noted unless the table is refused.
pub record Decided (table pool fates : List ℕ) (answer : Result Salvaged Refusal) : Type 0 where
  pub given : answer ≡ decided table pool
  pub noted : fault_refusal table pool ≡ none → row_count table ≤ length fates
  pub fated : fault_refusal table pool ≡ none → Fated (nodes table pool) fates (row_count table)
