-- `writer::judge_in` meets its contract.
use Rattle.std.proofs.lemmas.Result.{err_from_is_err_and}
use Rattle.text_refusals.proofs.Outcome.{lookup-refused}
use Rattle.text_refusals.proofs.Judging.{judged-refused}
use Rattle.writer.proofs.judge_in.Goals as goal

pub begin-requires : goal.begin-requires
begin-requires g c = c.requires.blank

pub judge_asked-requires : goal.judge_asked-requires
judge_asked-requires g c = record { grounded = c.begin.ensures.0 _ c.in_ok-xml.was; cleared = c.requires.cleared }

pub returns : goal.returns
returns g c = c.judge_asked.ensures

pub returns-in_err-xml : goal.returns-in_err-xml
returns-in_err-xml g c =
    let p = err_from_is_err_and c.from_residual.result c.from_residual.ensures.1 in
    rw (p.1, p.2)
    (judged-refused c.args.table.now c.args.pool.now c.args.row.0 _
    (λ size. lookup-refused c.args.table.now c.args.pool.now c.args.row.0 size _ (c.begin.ensures.1 _ c.in_err-xml.was)))
