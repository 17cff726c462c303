-- `begin_alike` meets its contract.
use mathlib.Core.Path.{sym, ◌∙◌}
use mathlib.Core.Bool.{true≢false}
use native.Mathlib.Omega.{arith}
use lib.Seq.{length-take-le}
use Rattle.rules.proofs.Lists.{same_bytes-equal}
use Rattle.pairs.proofs.begin_alike.Goals as goal

pub returns-then-other-pool : goal.returns-then-other-pool
returns-then-other-pool c = λ is. absurd (true≢false (sym is))

pub slice_bounds-same-end : goal.slice_bounds-same-end
slice_bounds-same-end c = sym (length-take-le _ _ (omega arith))

pub returns : goal.returns
returns c = λ is. same_bytes-equal _ _ (sym c.same.ensures ∙ is)
