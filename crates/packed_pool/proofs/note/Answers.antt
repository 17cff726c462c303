-- `note` meets its contract.
use native.Mathlib.Omega.{arith}
use lib.ListN.{length-set}
use Rattle.packed_pool.proofs.Marking.{both-noted, next-noted, remembered-noted, learned-noted}
use Rattle.packed_pool.proofs.note.Goals as goal

pub shape_of-index : goal.shape_of-index
shape_of-index c = simp length-set (omega (arith, c.remember_in.auto.index, c.remember.auto.index, c.learn.auto.index))

pub returns : goal.returns
returns c =
    let offset = c.args.place.offset.0 in
    let size = c.args.place.length in
    both-noted offset size (learned-noted offset size (omega arith) c.learn.ensures)
    (both-noted offset size (remembered-noted offset size c.remember.ensures.0 c.remember.ensures.1 (omega (arith, c.learn.auto.index)) c.remember.ensures.2)
    (both-noted offset size (remembered-noted offset size _ (omega arith) (omega (arith, c.learn.auto.index, c.remember.auto.index)) c.remember_in.ensures)
    (next-noted offset size c.remember_in.new.index _)))
