-- `check_levels` meets its contract. The invariant: the rows that are left decide.
use Prim.Native.Nat.{ℕ}
use mathlib.Core.List.{List}
use lib.ListN.{length}
use Rattle.rules.specs.Table.{nodes}
use Rattle.rules.specs.declared.Refusal.{Refusal}
use Rattle.proposals.specs.Proposals.{is_level1_row}
use Rattle.proposals.proofs.Scans.{Scanning}
use Rattle.proposal_rows.proofs.check_levels.Given as goal

abbrev pub invariant-loop-r : goal.invariant-loop-r
invariant-loop-r l = (pool : List ℕ) → Scanning (is_level1_row (nodes l.table pool)) Refusal.ProposalLevel1 (length (nodes l.table pool)) l.r
