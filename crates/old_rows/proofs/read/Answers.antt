use Rattle.old_rows.proofs.Rows.{no_rows, rows_step}
use Rattle.old_rows.proofs.read.Goals as goal

pub loop-r-init : goal.loop-r-init
loop-r-init c = no_rows _ _

pub loop-r-preserved : goal.loop-r-preserved
loop-r-preserved c =
    rows_step c.args.table.now c.loop-r.table c.args.bytes.now c.args.rows c.loop-r.r c.requires.rows_in_bounds_2 c.loop-r-test.true c.loop-r.invariant _ c.read_row.ensures
