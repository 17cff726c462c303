-- RULES 2: the numbers of a refusal, and of what a check answers, as the struct that hands them on.
use Rattle.std.specs.Prelude.{Result, ⊤}
use Rattle.rules.specs.Answers as rules
use Rattle.rules.specs.declared.Refusal.{Refusal}
use Rattle.refusal_numbers.specs.declared.Number.{Number}

abbrev pub number_given : rules.Number → Number
number_given n = record { number = n.number; row = record { 0 = n.row }; word = n.word }

abbrev pub refusal_given : Refusal → Number
refusal_given x = number_given (rules.number_of x)

abbrev pub check_given : Result ⊤ Refusal → Number
check_given a = number_given (rules.check_number a)
