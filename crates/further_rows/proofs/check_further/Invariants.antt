-- `check_further` meets its contract.
use lib.ListN.{length}
use Rattle.rules.specs.Table.{nodes}
use Rattle.rules.specs.declared.Refusal.{Refusal}
use Rattle.proposals.specs.Proposals.{is_foreign}
use Rattle.proposals.proofs.Scans.{Scanning}
use Rattle.further_rows.proofs.check_further.Given as goal

abbrev pub invariant-loop-r : goal.invariant-loop-r
invariant-loop-r l = Scanning (is_foreign (nodes l.original l.pool) (nodes l.proposal l.other)) Refusal.Changed (length (nodes l.proposal l.other)) l.r
