-- `old_rows::read` meets its contract. The invariant: so many rows are read.
use Rattle.std.proofs.Common.{◌≡◌}
use Rattle.buffers.specs.Writes.{written}
use Rattle.old_rows.proofs.Rows.{rows_from}
use Rattle.old_rows.proofs.read.Given as goal

abbrev pub invariant-loop-r : goal.invariant-loop-r
invariant-loop-r l = l.table ≡ written l.initial.table 0 (rows_from l.r l.bytes)
