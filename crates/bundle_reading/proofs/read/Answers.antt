-- `bundle_reading::read` meets its contract.
use Rattle.rules.specs.Table.{MOST_ROWS}
use Rattle.table_size.specs.Small.{FEW_ROWS}
use Rattle.bundles.proofs.Opening.{new-room}
use Rattle.bundle_reading.proofs.read.Goals as goal

pub read_in-requires-clause-has_room : goal.read_in-requires-clause-has_room
read_in-requires-clause-has_room c = new-room c.args.bundle.now MOST_ROWS 0 (λ header few. few)

pub read_in-requires-2-clause-has_room : goal.read_in-requires-2-clause-has_room
read_in-requires-2-clause-has_room c = new-room c.args.bundle.now FEW_ROWS 0 (λ header few. c.has_many_rows.ensures c.if-has_many_rows.false header)

pub returns-then-has_many_rows : goal.returns-then-has_many_rows
returns-then-has_many_rows c =
    record { value = c.read_in.ensures.value; out_table_after = c.read_in.ensures.out_table_after; out_pool_after = c.read_in.ensures.out_pool_after }

pub returns : goal.returns
returns c =
    record { value = c.read_in-2.ensures.value; out_table_after = c.read_in-2.ensures.out_table_after; out_pool_after = c.read_in-2.ensures.out_pool_after }
