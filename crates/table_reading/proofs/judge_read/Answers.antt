-- `table_reading::judge_read` meets its contract.
use mathlib.Core.Path.{sym, ◌∙◌}
use Rattle.table_reading.proofs.Copied.{drawn-first, no_row_room, no-byte-room, read-room}
use Rattle.std.proofs.Common.{ap, Err}
use Rattle.std.proofs.lemmas.Result.{err_from_is_err_and}
use Rattle.table_reading.proofs.judge_read.Goals as goal

pub returns-in_err-drawn : goal.returns-in_err-drawn
returns-in_err-drawn c =
    let p = err_from_is_err_and c.from_residual.result c.from_residual.ensures.1 in
    p.1 ∙ ap Err p.2 ∙ sym c.in_err-drawn.was
    ∙ (drawn-first _ _ _ _ c.requires _ c.in_err-drawn.was)

pub returns-then-words-row_count : goal.returns-then-words-row_count
returns-then-words-row_count c =
    no_row_room _ _ _ _ (sym c.in_ok-drawn.was ∙ c.requires) (rw (sym c.row_count.ensures) c.if-words-row_count.true)

pub returns-then-bytes-pool : goal.returns-then-bytes-pool
returns-then-bytes-pool c =
    no-byte-room _ _ _ _ (sym c.in_ok-drawn.was ∙ c.requires) (rw (sym c.row_count.ensures) c.if-words-row_count.false) c.if-bytes-pool.true

pub returns : goal.returns
returns c =
    read-room _ _ _ _ (sym c.in_ok-drawn.was ∙ c.requires) (rw (sym c.row_count.ensures) c.if-words-row_count.false) c.if-bytes-pool.false
