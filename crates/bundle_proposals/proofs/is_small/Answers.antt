-- `is_small` meets its contract.
use mathlib.Core.Path.{sym}
use mathlib.Core.Bool.{true≢false}
use Rattle.bundle_proposals.proofs.is_small.Goals as goal

pub returns-then-has_many_rows : goal.returns-then-has_many_rows
returns-then-has_many_rows c = λ is. absurd (true≢false (sym is))

pub returns : goal.returns
returns c = λ is. c.has_many_rows.ensures c.if-has_many_rows.false
