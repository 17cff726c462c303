-- `mark_long` meets its contract.
use native.Mathlib.Omega.{arith}
use borrow.Author.Tests.{lt-ltb}
use Rattle.rules.proofs.Lists.{true-both}
use Rattle.packed_pool.proofs.Marking.{counted-chains, counted-room, counted-index, stopped, went_on, remembered-marked}
use Rattle.packed_pool.proofs.mark_long.Goals as goal

pub returns-then-hard-gt-MUCH : goal.returns-then-hard-gt-MUCH
returns-then-hard-gt-MUCH c =
    λ names g. stopped c.args.index.now c.count-hard.result c.count-hard.ensures (let room = c.requires.tables.1.room in omega arith) (true-both (c.if-not-easy.false) (lt-ltb 512 _ c.if-hard-gt-MUCH.true))

pub mark_name-mark-requires : goal.mark_name-mark-requires
mark_name-mark-requires c =
    record { tables = (c.requires.tables.0, counted-chains c.args.index.now c.count-hard.result c.count-hard.ensures c.requires.tables.1, counted-room c.args.index.now c.count-hard.result c.count-hard.ensures c.requires.tables.2); within = c.requires.within }

pub returns : goal.returns
returns c =
    λ names g. went_on c.args.index.now c.count-hard.result c.count-hard.ensures (remembered-marked c.remember.ensures.0 c.args.place.offset.0 c.args.place.length c.remember.ensures.1 (let room = c.requires.tables.1.room in omega (arith, c.mark_name-mark.auto.index)) c.remember.ensures.2 (c.mark_name-mark.ensures names (counted-index c.args.index.now c.count-hard.result c.count-hard.ensures g)))
