-- `rows::has_row` meets its contract.
use Rattle.rows.proofs.Words.{row-less}
use Rattle.rows.proofs.has_row.Goals as goal

pub returns : goal.returns
returns c = row-less c.args.table.now c.args.row.0 c.wide.result c.row_count.result c.wide.ensures c.row_count.ensures
