-- What the salvage of a bundle answers gives its numbers.
use Rattle.std.proofs.Common.{sym, ap, ◌∙◌}
use Rattle.rules.specs.Answers.{rescued_number, rescued_bytes, rescued_dropped}
use Rattle.salvage_answers.specs.Given.{rescued_given}
use Rattle.salvage_answers.proofs.SavedFromResultRescuedRefusal.from.Goals as goal

pub returns-in-Ok : goal.returns-in-Ok
unfolding rescued_number rescued_bytes rescued_dropped
returns-in-Ok c = c.new.ensures ∙ sym (ap rescued_given c.in-Ok.is)

pub returns-in-Err : goal.returns-in-Err
unfolding rescued_number rescued_bytes rescued_dropped
returns-in-Err c = rw (c.new-in-Err.ensures, c.into.ensures) (sym (ap rescued_given c.in-Err.is))
