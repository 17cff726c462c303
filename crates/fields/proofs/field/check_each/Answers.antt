-- `field::check_each` meets its contract.
use Rattle.std.proofs.Common.{sym, ap, ◌∙◌, Err}
use Rattle.std.proofs.lemmas.Result.{err_from_is_err_and}
use Rattle.fields.proofs.Passes.{refused-place, by_lengths}
use Rattle.fields.proofs.field.check_each.Goals as goal

pub returns-in_err-check_places : goal.returns-in_err-check_places
returns-in_err-check_places c =
    let p = err_from_is_err_and c.from_residual.result c.from_residual.ensures.1 in
    p.1 ∙ ap Err p.2 ∙ sym c.in_err-check_places.was
    ∙ refused-place c.args.table.now c.args.pool.now c.args.row.0 c.check_places.ensures _ c.in_err-check_places.was

pub returns : goal.returns
returns c =
    by_lengths c.args.table.now c.args.pool.now c.args.row.0 c.check_places.ensures c.in_ok-check_places.was c.check_lengths.ensures
