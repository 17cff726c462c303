-- `bundle_salvage::salvage` meets its contract.
use Rattle.rules.specs.Table.{MOST_ROWS}
use Rattle.table_size.specs.Small.{FEW_ROWS}
use Rattle.bundles.proofs.Opening.{new-room}
use Rattle.bundle_salvage.proofs.salvage.Goals as goal

pub salvage_in-requires-clause-has_room : goal.salvage_in-requires-clause-has_room
salvage_in-requires-clause-has_room c = new-room c.args.bundle.now MOST_ROWS 0 (λ header few. few)

pub salvage_in-requires-2-clause-has_room : goal.salvage_in-requires-2-clause-has_room
salvage_in-requires-2-clause-has_room c = new-room c.args.bundle.now FEW_ROWS 0 (λ header few. c.has_many_rows.ensures c.if-has_many_rows.false header)

pub returns-then-has_many_rows : goal.returns-then-has_many_rows
returns-then-has_many_rows c =
    record { value = c.salvage_in.ensures.value; out_after = c.salvage_in.ensures.out_after; list_after = c.salvage_in.ensures.list_after }

pub returns : goal.returns
returns c =
    record { value = c.salvage_in-2.ensures.value; out_after = c.salvage_in-2.ensures.out_after; list_after = c.salvage_in-2.ensures.list_after }
