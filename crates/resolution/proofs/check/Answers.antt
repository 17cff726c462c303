-- `check` meets its contract.
use native.Mathlib.Omega.{arith}
use Rattle.resolution.proofs.Known.{zeros-known}
use Rattle.resolution.proofs.check.Goals as goal

pub check_in-requires : goal.check_in-requires
check_in-requires c =
    record { by_index = c.requires.by_index; standing = c.requires.standing; known = zeros-known c.args.table.now c.args.notes.now c.args.tops.now c.args.path.now c.requires.standing 768 (omega arith) }
