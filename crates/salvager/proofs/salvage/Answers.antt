-- `salvager::salvage` meets its contract.
use Rattle.std.proofs.Common.{◌≤◌, arith}
use Rattle.rules.specs.Table.{MOST_ROWS, row_count}
use Rattle.table_size.specs.Small.{FEW_ROWS}
use Rattle.checker.proofs.Lending.{zeros-lent}
use Rattle.salvager.proofs.Lending.{fates-lent}
use Rattle.salvager.proofs.salvage.Goals as goal

pub salvage_in-requires : goal.salvage_in-requires
salvage_in-requires c =
    let few : row_count c.args.table.now ≤ FEW_ROWS = omega (arith, c.row_count.ensures, c.if-row_count-le-FEW_ROWS.true) in
    record { dictionary_size = omega arith; note_size = omega arith; fate_size = omega arith; lent = zeros-lent c.args.table.now FEW_ROWS (λ _. few); fates_lent = fates-lent c.args.table.now FEW_ROWS (λ _. few) }

pub salvage_in-requires-2 : goal.salvage_in-requires-2
salvage_in-requires-2 c =
    record { dictionary_size = omega arith; note_size = omega arith; fate_size = omega arith; lent = zeros-lent c.args.table.now MOST_ROWS (λ h. h); fates_lent = fates-lent c.args.table.now MOST_ROWS (λ h. h) }
