-- What a lookup that may find a built-in answers gives its numbers.
use Rattle.std.proofs.Common.{sym, ap, ◌∙◌, Some, Ok}
use Rattle.rules.specs.Answers.{bound_number, bound_found, bound_place}
use Rattle.answers.specs.Given.{bound_given}
use Rattle.answers.proofs.FoundFromResultOptionBoundRefusal.from.Goals as goal

pub returns-in-Ok-Some-At : goal.returns-in-Ok-Some-At
unfolding bound_number bound_found bound_place
returns-in-Ok-Some-At c =
    let some = rw c.in-Ok-Some-At.is at c.in-Ok-Some-At.field-0-is in
    c.new.ensures ∙ sym (ap bound_given (c.in-Ok-Some-At.is ∙ ap Ok (some ∙ ap Some (rw (c.in-Ok-Some-At.is, some) at c.in-Ok-Some-At.field-0-0-is))))

pub returns-in-Ok-Some-Xml : goal.returns-in-Ok-Some-Xml
unfolding bound_number bound_found bound_place
returns-in-Ok-Some-Xml c =
    let some = rw c.in-Ok-Some-Xml.is at c.in-Ok-Some-Xml.field-0-is in
    c.new-in-Ok-Some-Xml.ensures ∙ sym (ap bound_given (c.in-Ok-Some-Xml.is ∙ ap Ok (some ∙ ap Some (rw (c.in-Ok-Some-Xml.is, some) at c.in-Ok-Some-Xml.field-0-0-is))))

pub returns-in-Ok-Some-Xmlns : goal.returns-in-Ok-Some-Xmlns
unfolding bound_number bound_found bound_place
returns-in-Ok-Some-Xmlns c =
    let some = rw c.in-Ok-Some-Xmlns.is at c.in-Ok-Some-Xmlns.field-0-is in
    c.new-in-Ok-Some-Xmlns.ensures ∙ sym (ap bound_given (c.in-Ok-Some-Xmlns.is ∙ ap Ok (some ∙ ap Some (rw (c.in-Ok-Some-Xmlns.is, some) at c.in-Ok-Some-Xmlns.field-0-0-is))))

pub returns-in-Ok-None : goal.returns-in-Ok-None
unfolding bound_number bound_found bound_place
returns-in-Ok-None c = c.nothing.ensures ∙ sym (ap bound_given (c.in-Ok-None.is ∙ ap Ok (rw c.in-Ok-None.is at c.in-Ok-None.field-0-is)))

pub returns-in-Err : goal.returns-in-Err
unfolding bound_number bound_found bound_place
returns-in-Err c = c.refused.ensures ∙ sym (ap bound_given c.in-Err.is)
