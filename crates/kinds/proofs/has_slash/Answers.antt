-- `has_slash` meets its contract.
use mathlib.Core.Path.{refl}
use native.Mathlib.Omega.{arith}
use Rattle.rules.proofs.Lists.{true-not-false}
use Rattle.kinds.proofs.Slashes.{slash-not-good}
use Rattle.kinds.proofs.has_slash.Goals as goal

pub returns-then-name-lt8 : goal.returns-then-name-lt8
returns-then-name-lt8 c = λ e. absurd (true-not-false e refl)

pub returns : goal.returns
returns c = slash-not-good c.args.name.now (omega arith)
