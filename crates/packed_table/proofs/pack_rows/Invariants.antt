-- `pack_rows` meets its contract.
use Rattle.std.proofs.Common.{ℕ, List}
use Rattle.packed_table.proofs.Going.{Going}
use Rattle.packed_table.proofs.pack_rows.Given as goal

abbrev pub invariant-loop-r : goal.invariant-loop-r
invariant-loop-r l = (spelling : ℕ → List ℕ) × (last : ℕ) × (rest : List ℕ) × Going l.table l.pool l.tables l.notes l.limit spelling last rest l.index l.starts l.out_table l.out l.r
