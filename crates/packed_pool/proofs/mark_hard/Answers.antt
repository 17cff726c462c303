-- `mark_hard` meets its contract.
use native.Mathlib.Omega.{arith}
use Rattle.packed_pool.proofs.Marking.{remembered-marked, first-marked}
use Rattle.packed_pool.proofs.mark_hard.Goals as goal

pub first_place-first-requires : goal.first_place-first-requires
first_place-first-requires c = (let room = c.requires.tables.1.room in omega arith, c.holds.ensures (c.if-not-holds.false))

pub returns : goal.returns
returns c =
    let offset = c.args.place.offset.0 in
    let size = c.args.place.length in
    λ names g.
    remembered-marked c.remember.ensures.0 offset size c.remember.ensures.1 (let room = c.requires.tables.1.room in omega (arith, c.mark_first-mark.auto.index)) c.remember.ensures.2
    (first-marked offset size c.first_place-first.result.offset.0 c.first_place-first.result.length c.first_place-first.ensures c.requires.within.0.0 g (c.mark_first-mark.ensures names g))
