-- RULES 2: the numbers and values of each answer, as the structs that hand them on.
use Rattle.rules.specs.Answers.{Located, Lookup}
use Rattle.rules.specs.Answers as rules
use Rattle.refusal_numbers.specs.Given.{number_given}
use Rattle.answers.specs.declared.Found.{Found}

abbrev pub located_given : Located → Found
located_given a = record { number = number_given (rules.located_number a); found = rules.located_found a; place = rules.located_place a }

abbrev pub bound_given : Lookup → Found
bound_given a = record { number = number_given (rules.bound_number a); found = rules.bound_found a; place = rules.bound_place a }
