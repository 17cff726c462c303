-- `markup_refusals::check_values` meets its contract.
use Prim.Native.Nat.{ℕ}
use Rattle.rules.specs.Table.{row_count}
use Rattle.rules.specs.declared.Refusal.{Refusal}
use Rattle.subtree.specs.Flags.{Flagged}
use Rattle.subtree.proofs.Scans.{Scanning}
use Rattle.markup_refusals.proofs.Tests.{spoiled}
use Rattle.markup_refusals.proofs.check_values.Given as goal

abbrev pub invariant-loop-r : goal.invariant-loop-r
invariant-loop-r l = (e : ℕ) → Flagged l.table l.flags e (row_count l.table) → Scanning l.table l.pool (spoiled l.table l.pool e) Refusal.Character l.r
