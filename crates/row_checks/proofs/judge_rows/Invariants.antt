-- `row_checks::judge_rows` meets its contract. The invariant: the rows before row r are not refused, and
-- their names have their numbers.
use Prim.Native.Nat.{◌-◌}
use Rattle.rules.specs.Table.{row_count}
use Rattle.row_checks.proofs.Going.{Looping}
use Rattle.row_checks.proofs.judge_rows.Given as goal

abbrev pub invariant-loop-allowed : goal.invariant-loop-allowed
invariant-loop-allowed l = Looping l.drops l.table l.pool l.initial.dictionary l.initial.notes l.initial.fates l.dictionary l.notes l.chains l.fates l.dropped l.r

abbrev pub decreases-loop-allowed : goal.decreases-loop-allowed
decreases-loop-allowed l = row_count l.table - l.r
