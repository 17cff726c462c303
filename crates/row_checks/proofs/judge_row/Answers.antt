-- `row_checks::judge_row` meets its contract.
use mathlib.Core.Path.{sym, ◌∙◌}
use native.Mathlib.Omega.{arith}
use Rattle.rules.specs.Table.{nodes}
use Rattle.rules.proofs.Refusals.{verdict-accepted}
use Rattle.faults.proofs.Laws.{not-accepted}
use Rattle.conflicts.proofs.Laws.{known}
use Rattle.fates.specs.Fates.{keeps}
use Rattle.row_checks.proofs.Going.{step-fault, step-drops, step-conflict, going-room, going-numbered, going-owned, fate-of, going-dropped, going-alone}
use Rattle.std.proofs.Common.{ap, Err}
use Rattle.std.proofs.lemmas.Result.{err_from_is_err_and}
use Rattle.row_checks.proofs.judge_row.Goals as goal

pub check-requires : goal.check-requires
check-requires c =
    let h = c.requires.row_bound in
    let g = c.requires.going in record { row_bound = (h, c.requires.enough.records); pool_len_bound = c.requires.enough.bytes; judging = c.requires.judging; right = c.requires.right; table_bound = c.requires.enough.rows; dictionary = g.right; has_room = going-room g h c.requires.enough }

pub returns-in_err-check : goal.returns-in_err-check
returns-in_err-check c =
    let p = err_from_is_err_and c.from_residual.result c.from_residual.ensures.1 in
    rw (p.1 ∙ ap Err p.2 ∙ sym c.in_err-check.was)
    (record { value = step-fault c.args.drops c.args.table.now c.args.pool.now c.args.row.0 c.check.ensures.value _ c.in_err-check.was; going_2 = λ a. not-accepted _ c.in_err-check.was a; by_index = c.check.ensures.by_index })

pub check-conflict-requires : goal.check-conflict-requires
check-conflict-requires c =
    let h = c.requires.row_bound in
    let g = c.requires.going in
    let n = c.check.ensures.row_numbered c.in_ok-check.was in record { row_bound = h; known = known n.right n.numbered; some_entered = record { enters = keeps (nodes c.args.table.now c.args.pool.now); those = going-owned g h n c.check.auto.notes } }

pub returns-then-not-drops : goal.returns-then-not-drops
returns-then-not-drops c =
    let h = c.requires.row_bound in
    let g = c.requires.going in
    let n = c.check.ensures.row_numbered c.in_ok-check.was in
    let l = c.check.auto.notes in
    let off = c.if-not-drops.true in
    let clear = verdict-accepted _ (sym c.check.ensures.value ∙ c.in_ok-check.was) in
    let drawn = c.check-conflict.ensures.by_index (keeps (nodes c.args.table.now c.args.pool.now)) c.args.pool.now (going-owned g h n l) n.right (going-numbered g h n l) in record { value = step-conflict c.args.drops c.args.table.now c.args.pool.now c.args.row.0 off clear (fate-of g h n l clear drawn); going_2 = λ z. going-alone g h n l clear drawn off c.check-conflict.ensures.chains_after z; by_index = c.check.ensures.by_index }

pub note-requires : goal.note-requires
note-requires c = omega (arith, c.requires.row_bound, c.requires.table_in_bounds (c.if-not-drops.false))

pub returns : goal.returns
returns c =
    let h = c.requires.row_bound in
    let g = c.requires.going in
    let n = c.check.ensures.row_numbered c.in_ok-check.was in
    let l = c.check.auto.notes in
    let on = c.if-not-drops.false in
    let drawn = c.check-conflict.ensures.by_index (keeps (nodes c.args.table.now c.args.pool.now)) c.args.pool.now (going-owned g h n l) n.right (going-numbered g h n l) in record { value = step-drops c.args.drops c.args.table.now c.args.pool.now c.args.row.0 on (sym c.in_ok-check.was ∙ c.check.ensures.value); going_2 = λ z. going-dropped g h n l (verdict-accepted _ (sym c.check.ensures.value ∙ c.in_ok-check.was)) drawn on c.check-conflict.ensures.chains_after (omega (arith, h, c.requires.table_in_bounds on)) c.note.ensures; by_index = c.check.ensures.by_index }
