-- What a check answers gives its numbers.
use Rattle.std.proofs.Common.{sym, ap, ◌∙◌}
use Rattle.rules.specs.Answers.{check_number}
use Rattle.refusal_numbers.specs.Given.{check_given}
use Rattle.refusal_numbers.proofs.NumberFromResultUnitRefusal.from.Goals as goal

pub returns-in-Ok : goal.returns-in-Ok
unfolding check_number
returns-in-Ok c = sym (ap check_given c.in-Ok.is)

pub returns-in-Err : goal.returns-in-Err
unfolding check_number
returns-in-Err c = c.from.ensures ∙ sym (ap check_given c.in-Err.is)
