-- What a lookup that finds no built-in answers gives its numbers.
use Rattle.std.proofs.Common.{sym, ap, ◌∙◌, Ok}
use Rattle.rules.specs.Answers.{located_number, located_found, located_place}
use Rattle.answers.specs.Given.{located_given}
use Rattle.answers.proofs.FoundFromResultOptionPlaceRefusal.from.Goals as goal

pub returns-in-Ok-Some : goal.returns-in-Ok-Some
unfolding located_number located_found located_place
returns-in-Ok-Some c = c.new.ensures ∙ sym (ap located_given (c.in-Ok-Some.is ∙ ap Ok (rw c.in-Ok-Some.is at c.in-Ok-Some.field-0-is)))

pub returns-in-Ok-None : goal.returns-in-Ok-None
unfolding located_number located_found located_place
returns-in-Ok-None c = c.nothing.ensures ∙ sym (ap located_given (c.in-Ok-None.is ∙ ap Ok (rw c.in-Ok-None.is at c.in-Ok-None.field-0-is)))

pub returns-in-Err : goal.returns-in-Err
unfolding located_number located_found located_place
returns-in-Err c = c.refused.ensures ∙ sym (ap located_given c.in-Err.is)
