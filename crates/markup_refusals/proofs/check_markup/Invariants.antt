-- `markup_refusals::check_markup` meets its contract.
use Prim.Native.Nat.{ℕ}
use mathlib.Core.List.{List}
use Rattle.rules.specs.Table.{row_count}
use Rattle.rules.specs.declared.Refusal.{Refusal}
use Rattle.subtree.specs.Flags.{Flagged}
use Rattle.subtree.proofs.Scans.{Scanning}
use Rattle.markup_refusals.proofs.Tests.{foreign}
use Rattle.markup_refusals.proofs.check_markup.Given as goal

abbrev pub invariant-loop-r : goal.invariant-loop-r
invariant-loop-r l = (e : ℕ) (pool : List ℕ) → Flagged l.table l.flags e (row_count l.table) → Scanning l.table pool (foreign l.table pool e) Refusal.NotMarkup l.r
