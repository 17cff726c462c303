-- `in_place::normalize_lent` meets its contract.
use mathlib.Core.Path.{sym}
use lib.Seq.{length-take-le}
use Rattle.normal_form.proofs.Outcome.{input-made}
use Rattle.normal_form.proofs.Start.{enough-kept, blank_part}
use Rattle.in_place.proofs.Room.{part-fits, front_fits}
use Rattle.std.proofs.lemmas.Result.{err_from_is_err_and}
use Rattle.in_place.proofs.normalize_lent.Goals as goal

pub slice_bounds-judge-end-2 : goal.slice_bounds-judge-end-2
slice_bounds-judge-end-2 c = sym (length-take-le _ _ (part-fits c.requires.room_for))

pub slice_bounds-judge-end-4 : goal.slice_bounds-judge-end-4
slice_bounds-judge-end-4 c = sym (length-take-le _ _ (front_fits c.requires.room_for))

pub judge-requires : goal.judge-requires
judge-requires c =
    record { blank = blank_part c.args.words.now c.args.rows (part-fits c.requires.room_for) c.requires.blank; numbering = c.requires.numbering }

pub normalize_accepted-requires : goal.normalize_accepted-requires
normalize_accepted-requires c =
    record { room_for = c.requires.room_for; enough = enough-kept c.requires.blank.enough c.judge.auto.notes c.judge.auto.path; topped = c.requires.topped; prepared = c.judge.ensures.by_index _ c.in_ok-names.was }

pub returns-in_err-names : goal.returns-in_err-names
returns-in_err-names c =
    let p = err_from_is_err_and c.from_residual.result c.from_residual.ensures.1 in
    rw (p.1, p.2)
    (input-made _ (c.judge.ensures.pool_value _ c.in_err-names.was))
