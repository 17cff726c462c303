-- `keyed::once` meets its contract.
use mathlib.Core.Path.{◌∙◌}
use native.Mathlib.Omega.{arith}
use Rattle.keyed.proofs.Sums.{raised-even, raised-odd}
use Rattle.keyed.proofs.once.Goals as goal

pub returns-then-n-eq0 : goal.returns-then-n-eq0
returns-then-n-eq0 c = (raised-even c.args.base c.args.h c.args.n c.if-n-eq0.true, omega arith)

pub returns : goal.returns
returns c = (c.push.ensures.value ∙ raised-odd c.args.base c.args.h c.args.n c.if-n-eq0.false, omega arith)
