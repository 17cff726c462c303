-- `packer::pack` meets its contract.
use Rattle.std.proofs.Common.{arith}
use Rattle.rules.specs.Table.{MOST_ROWS}
use Rattle.table_size.specs.Small.{FEW_ROWS}
use Rattle.packer.proofs.Outcome.{zeros-lent}
use Rattle.packer.proofs.pack.Goals as goal

pub pack_in-requires-clause-lent : goal.pack_in-requires-clause-lent
pack_in-requires-clause-lent c = zeros-lent c.args.table.now FEW_ROWS (λ _. omega (arith, c.row_count.ensures, c.if-row_count-le-FEW_ROWS.true))

pub pack_in-requires-2-clause-lent : goal.pack_in-requires-2-clause-lent
pack_in-requires-2-clause-lent c = zeros-lent c.args.table.now MOST_ROWS (λ h. h)
