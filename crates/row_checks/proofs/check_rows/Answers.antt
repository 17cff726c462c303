-- `row_checks::check_rows` meets its contract.
use mathlib.Core.Path.{refl, sym, ap, ◌∙◌}
use Rattle.rules.proofs.Lists.{true-not-false}
use Rattle.row_checks.specs.Judging.{checked_of}
use Rattle.std.proofs.lemmas.Result.{err_from_is_err_and}
use Rattle.row_checks.proofs.check_rows.Goals as goal

pub judge_rows-requires : goal.judge_rows-requires
judge_rows-requires c =
    record { enough = c.requires.enough; judging = c.requires.judging; dictionary = c.requires.dictionary; table_in_bounds = λ on. absurd (true-not-false on refl); fated = λ on. absurd (true-not-false on refl) }

pub returns : goal.returns
unfolding checked_of
returns c =
    let t = ap checked_of c.in_ok-judge_rows.was in record { value = λ e. sym t ∙ c.judge_rows.ensures.result_value e refl; named = λ e a. c.judge_rows.ensures.named e t; by_index = c.judge_rows.ensures.by_index }

pub returns-in_err-judge_rows : goal.returns-in_err-judge_rows
unfolding checked_of
returns-in_err-judge_rows c =
    let p = err_from_is_err_and c.from_residual.result c.from_residual.ensures.1 in
    rw (p.1, p.2)
    (let t = ap checked_of c.in_err-judge_rows.was in record { value = λ e. sym t ∙ c.judge_rows.ensures.result_value e refl; named = λ e a. c.judge_rows.ensures.named e (t ∙ a); by_index = c.judge_rows.ensures.by_index })
