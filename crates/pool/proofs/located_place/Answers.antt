-- `located_place` meets its contract: each answer has its place.
use Rattle.std.proofs.Common.{sym, ap, ◌∙◌, Ok}
use Rattle.rules.specs.Answers.{located_place}
use Rattle.pool.proofs.located_place.Goals as goal

pub returns-in-Ok-Some : goal.returns-in-Ok-Some
unfolding located_place
returns-in-Ok-Some c = sym (ap located_place (c.in-Ok-Some.is ∙ ap Ok (rw c.in-Ok-Some.is at c.in-Ok-Some.field-0-is)))

pub returns-in-Ok-None : goal.returns-in-Ok-None
unfolding located_place
returns-in-Ok-None c = sym (ap located_place (c.in-Ok-None.is ∙ ap Ok (rw c.in-Ok-None.is at c.in-Ok-None.field-0-is)))

pub returns-in-Err : goal.returns-in-Err
unfolding located_place
returns-in-Err c = sym (ap located_place c.in-Err.is)
