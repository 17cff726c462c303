-- What an operation that fills two outputs answers gives its numbers.
use Rattle.std.proofs.Common.{sym, ap, ◌∙◌}
use Rattle.rules.specs.Answers.{filled_number, filled_rows, filled_bytes}
use Rattle.output_answers.specs.Given.{filled_given}
use Rattle.output_answers.proofs.SizesFromResultFilledRefusal.from.Goals as goal

pub returns-in-Ok : goal.returns-in-Ok
unfolding filled_number filled_rows filled_bytes
returns-in-Ok c = c.new.ensures ∙ sym (ap filled_given c.in-Ok.is)

pub returns-in-Err : goal.returns-in-Err
unfolding filled_number filled_rows filled_bytes
returns-in-Err c = rw (c.new-in-Err.ensures, c.into.ensures) (sym (ap filled_given c.in-Err.is))
