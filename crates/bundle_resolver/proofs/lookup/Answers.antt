-- `bundle_resolver::lookup` meets its contract.
use Rattle.rules.specs.Table.{MOST_ROWS}
use Rattle.table_size.specs.Small.{FEW_ROWS}
use Rattle.bundles.proofs.Opening.{new-room}
use Rattle.bundle_resolver.proofs.lookup.Goals as goal

pub lookup_in-requires-clause-has_room : goal.lookup_in-requires-clause-has_room
lookup_in-requires-clause-has_room c = new-room c.args.bundle.now MOST_ROWS 0 (λ header few. few)

pub lookup_in-requires-2-clause-has_room : goal.lookup_in-requires-2-clause-has_room
lookup_in-requires-2-clause-has_room c = new-room c.args.bundle.now FEW_ROWS 0 (λ header few. c.has_many_rows.ensures c.if-has_many_rows.false header)

pub returns-then-has_many_rows : goal.returns-then-has_many_rows
returns-then-has_many_rows c = c.lookup_in.ensures

pub returns : goal.returns
returns c = c.lookup_in-2.ensures
