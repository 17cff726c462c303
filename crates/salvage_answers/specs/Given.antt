-- RULES 2: the numbers and values of what salvage answers, as the struct that hands them on.
use Rattle.std.specs.Prelude.{Result}
use Rattle.rules.specs.Answers as rules
use Rattle.refusal_numbers.specs.Given.{number_given}
use Rattle.salvage_answers.specs.declared.Saved.{Saved}
use Rattle.rules.specs.declared.Refusal.{Refusal}
use Rattle.rules.specs.declared.Rescued.{Rescued}

abbrev pub rescued_given : Result Rescued Refusal → Saved
rescued_given a =
    record { number = number_given (rules.rescued_number a); bytes = rules.rescued_bytes a; dropped = rules.rescued_dropped a }
