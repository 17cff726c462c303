-- `element_text::write_any` meets its contract.
use native.Mathlib.Omega.{arith}
use Rattle.element_text.proofs.Elements.{few, few_bytes, zeros-clear, runs-room}
use Rattle.element_text.proofs.write_any.Goals as goal

pub prepare-requires : goal.prepare-requires
prepare-requires c =
    record { pool_value = c.requires.pool_value; clear = zeros-clear c.args.table.now 8192 (omega (arith, few c.args.table.now c.args.pool.now c.requires.pool_value)); table_nonzero = omega (arith, c.requires.row_bound) }

pub write_measured-requires : goal.write_measured-requires
write_measured-requires c =
    let most = few_bytes c.args.table.now c.args.pool.now c.requires.pool_value in record { pool_len_bound = (most, runs-room _ 65536 (omega (arith, most))); at_hand = c.prepare.ensures _ c.requires.row_bound }

pub write_marked-requires : goal.write_marked-requires
write_marked-requires c = c.prepare.ensures _ c.requires.row_bound
