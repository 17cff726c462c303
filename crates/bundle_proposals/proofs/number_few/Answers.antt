-- `number_few` meets its contract.
use Rattle.table_size.specs.Small.{FEW_ROWS}
use Rattle.bundle_proposals.proofs.Opening.{opening-fails}
use Rattle.bundle_proposals.proofs.Numbering.{few-rows, notes-room, fails, check-fails, numbered}
use Rattle.std.proofs.lemmas.Result.{err_from_is_err_and}
use Rattle.bundle_proposals.proofs.number_few.Goals as goal

pub read_rows-requires : goal.read_rows-requires
read_rows-requires c = c.requires.has_room.0

pub pool-pool-requires : goal.pool-pool-requires
pool-pool-requires c = (c.read_rows.ensures.by_index _ c.in_ok-rows.was).inside

pub table-requires : goal.table-requires
table-requires c = (c.read_rows.ensures.by_index _ c.in_ok-rows.was).room

pub check_few-requires : goal.check_few-requires
check_few-requires c =
    let o = c.read_rows.ensures.by_index _ c.in_ok-rows.was in record { table_bound = few-rows _ _ _ o _ c.table.ensures FEW_ROWS c.requires.names_at_most; table_in_bounds = notes-room _ _ _ o _ c.table.ensures c.args.notes.now c.requires.has_room.1 }

pub returns : goal.returns
returns c =
    let o = c.read_rows.ensures.by_index _ c.in_ok-rows.was in
    numbered _ _ _ o _ c.table.ensures _ _ c.pool-pool.ensures c.check_few.ensures.value c.in_ok-check_few.was (c.check_few.ensures.noted c.in_ok-check_few.was)

pub returns-in_err-check_few : goal.returns-in_err-check_few
returns-in_err-check_few c =
    let p = err_from_is_err_and c.from_residual-in_err-check_few.result c.from_residual-in_err-check_few.ensures.1 in
    rw (p.1, p.2)
    (let o = c.read_rows.ensures.by_index _ c.in_ok-rows.was in
    check-fails _ _ _ o _ c.table.ensures _ _ c.pool-pool.ensures c.check_few.ensures.value _ c.in_err-check_few.was)

pub returns-in_err-rows : goal.returns-in_err-rows
returns-in_err-rows c =
    let p = err_from_is_err_and c.from_residual.result c.from_residual.ensures.1 in
    rw (p.1, p.2)
    (fails c.args.bundle.now _ _ _ (opening-fails c.args.bundle.now _ (c.read_rows.ensures.bundle_value _ c.in_err-rows.was)))
