-- `plain::is_plain` meets its contract.
use mathlib.Core.Path.{refl}
use Rattle.rules.proofs.Lists.{true-not-false}
use Rattle.row_names.proofs.Good.{good-text, good-named}
use Rattle.row_names.proofs.plain.is_plain.Goals as goal

pub returns-then-row_type-eq-TEXT : goal.returns-then-row_type-eq-TEXT
returns-then-row_type-eq-TEXT c = λ n t k e. good-text n t k (cc) e

pub returns-then-row_type : goal.returns-then-row_type
returns-then-row_type c = λ n t k e. absurd (true-not-false e refl)

pub returns : goal.returns
returns c = λ n t k e. good-named n t k c.if-row_type.false e
