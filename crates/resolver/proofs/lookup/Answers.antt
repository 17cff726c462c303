-- `resolver::lookup` meets its contract.
use Rattle.std.proofs.Common.{◌≤◌, arith}
use Rattle.rules.specs.Table.{MOST_ROWS, row_count}
use Rattle.table_size.specs.Small.{FEW_ROWS}
use Rattle.questions.proofs.Going.{notes-lent}
use Rattle.resolver.proofs.lookup.Goals as goal

pub lookup_in-requires : goal.lookup_in-requires
lookup_in-requires c =
    let few : row_count c.args.table.now ≤ FEW_ROWS = omega (arith, c.row_count.ensures, c.if-row_count-le-FEW_ROWS.true) in
    record { note_size = omega arith; path_size = omega arith; blank = notes-lent c.args.table.now FEW_ROWS (λ _. few); rows_few = λ _. few }

pub lookup_in-requires-2 : goal.lookup_in-requires-2
lookup_in-requires-2 c =
    record { note_size = omega arith; path_size = omega arith; blank = notes-lent c.args.table.now MOST_ROWS (λ h. h); rows_few = λ h. h }
