-- `beginning::begin` meets its contract.
use Rattle.std.proofs.Common.{arith}
use Rattle.rules.specs.Table.{MOST_ROWS}
use Rattle.table_size.specs.Small.{FEW_ROWS}
use Rattle.beginning.proofs.Beginning.{lent, at_most}
use Rattle.beginning.proofs.begin.Goals as goal

pub begin_in-requires : goal.begin_in-requires
begin_in-requires c =
    let few = at_most _ _ _ c.row_count.ensures c.if-row_count-le-FEW_ROWS.true in
    record { dictionary_size = omega arith; blank = c.requires; lent = lent c.args.table.now c.args.notes.now FEW_ROWS (λ _. few) c.requires }

pub returns-then-row_count-le-FEW_ROWS : goal.returns-then-row_count-le-FEW_ROWS
returns-then-row_count-le-FEW_ROWS c = c.begin_in.ensures

pub begin_in-requires-2 : goal.begin_in-requires-2
begin_in-requires-2 c =
    record { dictionary_size = omega arith; blank = c.requires; lent = lent c.args.table.now c.args.notes.now MOST_ROWS (λ h. h) c.requires }

pub returns : goal.returns
returns c = c.begin_in-2.ensures
