-- What writing answers gives its numbers.
use Rattle.std.proofs.Common.{sym, ap, ◌∙◌}
use Rattle.rules.specs.Answers.{written_number, written_bytes}
use Rattle.output_answers.specs.Given.{written_given}
use Rattle.output_answers.proofs.UsedFromResultUsizeRefusal.from.Goals as goal

pub returns-in-Ok : goal.returns-in-Ok
unfolding written_number written_bytes
returns-in-Ok c = c.new.ensures ∙ sym (ap written_given c.in-Ok.is)

pub returns-in-Err : goal.returns-in-Err
unfolding written_number written_bytes
returns-in-Err c = rw (c.new-in-Err.ensures, c.into.ensures) (sym (ap written_given c.in-Err.is))
