-- `sum_tables::put` meets its contract.
use Rattle.sum_tables.proofs.Rows.{number-made}
use Rattle.sum_tables.proofs.put.Goals as goal

pub returns : goal.returns
returns c = number-made c.args.table.now c.args.i c.args.x
