-- `finish` meets its contract.
use native.Mathlib.Omega.{arith}
use Rattle.packed_bundle.proofs.finish.Goals as goal

pub returns-then-out-packed : goal.returns-then-out-packed
returns-then-out-packed c =
    record { leaves = λ fits. absurd (omega (arith, fits, c.if-out-packed.true)); leaves_2 = λ less. (c.refuse.ensures.value, c.refuse.ensures.out_after) }

pub returns : goal.returns
returns c =
    record { leaves = λ fits. (c.write_before.ensures.value, c.write_before.ensures.out_after); leaves_2 = λ less. absurd (omega (arith, less, c.if-out-packed.false)) }
