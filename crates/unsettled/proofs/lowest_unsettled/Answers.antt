-- `unsettled::lowest_unsettled` meets its contract.
use native.Mathlib.Omega.{arith}
use Rattle.unsettled.proofs.lowest_unsettled.Goals as goal

pub returns : goal.returns
returns c = λ pool w. c.lowest_from.ensures pool w (λ q l k. absurd (omega arith))
