-- `well_formed_part` meets its contract.
use Prim.Native.Nat.{◌+◌, ◌/◌}
use native.Mathlib.Omega.{arith}
use Rattle.marks.proofs.Cutting.{marked-at}
use Rattle.marks.proofs.well_formed_part.Goals as goal

pub marked_part-requires : goal.marked_part-requires
marked_part-requires c =
    record { mark = marked-at c.args.pool.now c.args.marks.now (c.args.start / 128 + 1) c.index-first.result c.index.result c.requires.marked (omega arith) c.index-first.ensures c.index.ensures (omega arith); start_le_first = (omega arith, omega arith, c.requires.start_le_end.1) }
