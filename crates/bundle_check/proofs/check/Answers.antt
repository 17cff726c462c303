-- `bundle_check::check` meets its contract.
use Rattle.rules.specs.Table.{MOST_ROWS}
use Rattle.table_size.specs.Small.{FEW_ROWS}
use Rattle.bundles.proofs.Opening.{new-room}
use Rattle.bundle_check.proofs.check.Goals as goal

pub check_in-requires-clause-has_room : goal.check_in-requires-clause-has_room
check_in-requires-clause-has_room c = new-room c.args.bundle.now MOST_ROWS 0 (λ header few. few)

pub check_in-requires-2-clause-has_room : goal.check_in-requires-2-clause-has_room
check_in-requires-2-clause-has_room c = new-room c.args.bundle.now FEW_ROWS 0 (λ header few. c.has_many_rows.ensures c.if-has_many_rows.false header)
