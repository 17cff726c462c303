-- `put` meets its contract.
use native.Mathlib.Omega.{arith}
use Rattle.packed_pool.proofs.put.Goals as goal

pub returns-then-end-out : goal.returns-then-end-out
returns-then-end-out c = λ h. absurd (omega (arith, c.if-end-out.true, h))
