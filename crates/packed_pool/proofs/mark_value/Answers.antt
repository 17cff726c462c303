-- `mark_value` meets its contract.
use native.Mathlib.Omega.{arith}
use Rattle.packed_pool.proofs.Marking.{held-marked, remembered-marked}
use Rattle.tables.specs.Tables.{hash_in}
use Rattle.packed_pool.proofs.mark_value.Goals as goal

pub returns-then-known-gt0 : goal.returns-then-known-gt0
returns-then-known-gt0 c =
    λ names g. held-marked (omega arith) g c.if-known-gt0.true (c.recall-known.ensures (hash_in c.args.tables.now) c.args.pool.now names g c.if-known-gt0.true)

pub returns-then-place-gt-LONG : goal.returns-then-place-gt-LONG
returns-then-place-gt-LONG c = c.mark_long.ensures

pub returns : goal.returns
returns c =
    λ names g. remembered-marked c.remember.ensures.0 c.args.place.offset.0 c.args.place.length c.remember.ensures.1 (let room = c.requires.tables.1.room in omega (arith, c.mark_name-mark.auto.index)) c.remember.ensures.2 (c.mark_name-mark.ensures names g)
