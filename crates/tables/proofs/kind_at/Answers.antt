-- `kind_at` meets its contract.
use native.Mathlib.Omega.{arith}
use Prim.Native.Nat.{◌<◌}
use lib.ListN.{get_or, length-drop}
use Rattle.tables.specs.Tables.{MADE, PLAIN, COLONS, MARKS}
use Rattle.tables.proofs.Hashes.{lent}
use Rattle.tables.proofs.kind_at.Goals as goal

pub kind_at-requires : goal.kind_at-requires
kind_at-requires c =
    let m : 0 < get_or c.args.tables.now MADE 0 = omega arith in
    let room = c.requires.tables.room in
    let t = c.args.tables.now in
    rw (lent t MARKS (omega arith), lent t PLAIN (omega arith), lent t COLONS (omega arith))
    record { marks = (rw length-drop (omega arith), (c.requires.tables.made m).marks); ends = (rw length-drop (omega arith), (c.requires.tables.made m).plain); ends_2 = (rw length-drop (omega arith), (c.requires.tables.made m).colons); start_le_end = (c.requires.start_le_end.0, c.requires.start_le_end.1, c.requires.start_le_end.2) }
