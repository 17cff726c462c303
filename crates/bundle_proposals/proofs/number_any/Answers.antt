-- `number_any` meets its contract.
use Rattle.bundle_proposals.proofs.Opening.{opening-fails}
use Rattle.bundle_proposals.proofs.Numbering.{notes-room, fails, check-fails, numbered}
use Rattle.std.proofs.lemmas.Result.{err_from_is_err_and}
use Rattle.bundle_proposals.proofs.number_any.Goals as goal

pub number_few-requires : goal.number_few-requires
number_few-requires c = record { names_at_most = c.has_many_rows.ensures (c.if-not-has_many_rows.true); has_room = c.requires }

pub returns-then-not-has_many_rows : goal.returns-then-not-has_many_rows
returns-then-not-has_many_rows c = c.number_few.ensures

pub read_rows-requires : goal.read_rows-requires
read_rows-requires c = c.requires.0

pub pool-pool-requires : goal.pool-pool-requires
pool-pool-requires c = (c.read_rows.ensures.by_index _ c.in_ok-rows.was).inside

pub table-requires : goal.table-requires
table-requires c = (c.read_rows.ensures.by_index _ c.in_ok-rows.was).room

pub check-requires : goal.check-requires
check-requires c =
    let o = c.read_rows.ensures.by_index _ c.in_ok-rows.was in
    notes-room _ _ _ o _ c.table.ensures c.args.notes.now c.requires.1

pub returns : goal.returns
returns c =
    let o = c.read_rows.ensures.by_index _ c.in_ok-rows.was in
    numbered _ _ _ o _ c.table.ensures _ _ c.pool-pool.ensures c.check.ensures.value c.in_ok-check.was (c.check.ensures.noted c.in_ok-check.was)

pub returns-in_err-check : goal.returns-in_err-check
returns-in_err-check c =
    let p = err_from_is_err_and c.from_residual-in_err-check.result c.from_residual-in_err-check.ensures.1 in
    rw (p.1, p.2)
    (let o = c.read_rows.ensures.by_index _ c.in_ok-rows.was in
    check-fails _ _ _ o _ c.table.ensures _ _ c.pool-pool.ensures c.check.ensures.value _ c.in_err-check.was)

pub returns-in_err-rows : goal.returns-in_err-rows
returns-in_err-rows c =
    let p = err_from_is_err_and c.from_residual.result c.from_residual.ensures.1 in
    rw (p.1, p.2)
    (fails c.args.bundle.now _ _ _ (opening-fails c.args.bundle.now _ (c.read_rows.ensures.bundle_value _ c.in_err-rows.was)))
