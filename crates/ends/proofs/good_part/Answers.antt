-- `good_part` meets its contract.
use Prim.Native.Nat.{◌+◌, ◌/◌}
use native.Mathlib.Omega.{arith}
use Rattle.ends.proofs.good_part.Goals as goal

pub reached_part-requires : goal.reached_part-requires
reached_part-requires c =
    record { reach = rw c.index.ensures (c.requires.ended (c.args.start / 256 + 1) (omega arith)); start_lt_stop = (omega arith, omega arith, c.requires.start_le_end.1) }
