-- `row_numbers::check` meets its contract.
use native.Mathlib.Omega.{arith}
use Rattle.rules.specs.Table.{MOST_ROWS}
use Rattle.proposal_check.proofs.NotesKept.{lent, named-noted}
use Rattle.proposal_check.proofs.row_numbers.check.Goals as goal

pub check_few-requires : goal.check_few-requires
check_few-requires c =
    record { table_bound = omega (arith, c.row_count.ensures, c.if-row_count-le-FEW_ROWS.true); table_in_bounds = c.requires }

pub returns-then-row_count-le-FEW_ROWS : goal.returns-then-row_count-le-FEW_ROWS
returns-then-row_count-le-FEW_ROWS c = record { value = c.check_few.ensures.value; noted = c.check_few.ensures.noted }

pub check_numbered-requires : goal.check_numbered-requires
check_numbered-requires c = lent c.args.table.now c.args.notes.now MOST_ROWS (λ h. h) c.requires

pub returns : goal.returns
returns c =
    record { value = c.check_numbered.ensures.value; noted = named-noted c.args.table.now c.args.pool.now c.args.notes.now _ _ c.requires c.check_numbered.auto.notes c.check_numbered.ensures.value c.check_numbered.ensures.named }
