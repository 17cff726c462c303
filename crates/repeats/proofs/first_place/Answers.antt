-- `first_place` meets its contract.
use native.Mathlib.Omega.{arith}
use Rattle.repeats.proofs.Repeating.{first-low, first}
use Rattle.repeats.proofs.first_place.Goals as goal

pub overflow_add-result : goal.overflow_add-result
overflow_add-result c =
    let low = first-low c.args.index.now c.wide-start.result 0 c.wide-step.result c.args.place.offset.0 0 c.wide-start.ensures.0 c.wide-step.ensures.0 (omega arith) in omega (arith, low)

pub returns : goal.returns
returns c =
    first c.args.index.now c.wide-start.result 0 c.wide-step.result c.args.place.offset.0 c.args.place.length c.wide-start.ensures.0 c.wide-step.ensures.0 c.requires.1
