-- RULES 2: the numbers and values of the answers of operations that fill outputs, as the structs that hand them on.
use Rattle.std.specs.Prelude.{ℕ, Result}
use Rattle.rules.specs.Answers as rules
use Rattle.refusal_numbers.specs.Given.{number_given}
use Rattle.output_answers.specs.declared.Sizes.{Sizes}
use Rattle.output_answers.specs.declared.Used.{Used}
use Rattle.rules.specs.declared.Refusal.{Refusal}
use Rattle.rules.specs.declared.Filled.{Filled}

abbrev pub filled_given : Result Filled Refusal → Sizes
filled_given a = record { number = number_given (rules.filled_number a); rows = rules.filled_rows a; bytes = rules.filled_bytes a }

abbrev pub written_given : Result ℕ Refusal → Used
written_given a = record { number = number_given (rules.written_number a); bytes = rules.written_bytes a }
