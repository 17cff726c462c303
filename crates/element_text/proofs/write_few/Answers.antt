-- `element_text::write_few` meets its contract.
use native.Mathlib.Omega.{arith}
use Rattle.element_text.proofs.Elements.{zeros-clear}
use Rattle.element_text.proofs.write_few.Goals as goal

pub prepare-requires : goal.prepare-requires
prepare-requires c =
    record { pool_value = c.requires.pool_value; clear = zeros-clear c.args.table.now 512 (omega (arith, c.requires.table_bound)); table_nonzero = omega (arith, c.requires.row_bound) }

pub write_marked-requires : goal.write_marked-requires
write_marked-requires c = c.prepare.ensures _ c.requires.row_bound
