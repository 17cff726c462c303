-- `text_refusals::judge_asked` meets its contract.
use native.Mathlib.Omega.{arith}
use Rattle.scope_preparation.proofs.Preparing.{path_room, accepted-ground}
use Rattle.text_refusals.proofs.Judging.{judged-row, judged-written}
use Rattle.std.proofs.lemmas.Result.{err_from_is_err_and}
use Rattle.text_refusals.proofs.judge_asked.Goals as goal

pub prepare-requires : goal.prepare-requires
prepare-requires c =
    record { unlinked = c.requires.grounded.unlinked; in_bounds = omega (arith, path_room c.requires.cleared c.requires.grounded) }

pub check-requires : goal.check-requires
check-requires c =
    record { prepared = c.prepare.ensures _ _ _ c.requires.grounded c.requires.cleared; element_value = c.element_to_write-element.ensures c.args.pool.now }

pub returns : goal.returns
returns c =
    judged-written c.args.table.now c.args.pool.now c.args.row.0 (accepted-ground c.requires.grounded) c.requires.grounded.unrefused c.check.ensures _ (c.element_to_write-element.ensures c.args.pool.now) c.in_ok-check.was

pub returns-in_err-check : goal.returns-in_err-check
returns-in_err-check c =
    let p = err_from_is_err_and c.from_residual.result c.from_residual.ensures.1 in
    rw (p.1, p.2)
    (judged-row c.args.table.now c.args.pool.now c.args.row.0 (accepted-ground c.requires.grounded) c.requires.grounded.unrefused c.check.ensures _ c.in_err-check.was)
