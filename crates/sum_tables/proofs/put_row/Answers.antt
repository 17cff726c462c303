-- `sum_tables::put_row` meets its contract.
use Rattle.sum_tables.proofs.Rows.{row_made}
use Rattle.sum_tables.proofs.put_row.Goals as goal

pub returns : goal.returns
returns c =
    row_made c.args.table.now c.put.new.table c.put-2.new.table c.args.k c.args.sum1 c.args.sum2 c.put.ensures c.put-2.ensures
