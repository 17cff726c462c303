-- `checker::check` meets its contract.
use Rattle.rules.specs.Table.{MOST_ROWS}
use Rattle.table_size.specs.Small.{FEW_ROWS}
use Rattle.checker.proofs.Lending.{zeros-lent}
use Rattle.checker.proofs.check.Goals as goal

pub check_in-requires-clause-lent : goal.check_in-requires-clause-lent
check_in-requires-clause-lent c = zeros-lent c.args.table.now MOST_ROWS (λ h. h)

pub check_in-requires-2-clause-lent : goal.check_in-requires-2-clause-lent
check_in-requires-2-clause-lent c = zeros-lent c.args.table.now FEW_ROWS (λ _. c.has_many_rows.ensures c.if-has_many_rows.false)
