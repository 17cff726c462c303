-- `mark_first` meets its contract.
use native.Mathlib.Omega.{arith}
use Rattle.tables.specs.Tables.{hash_in}
use Rattle.packed_pool.proofs.Marking.{held-marked, noted-marked}
use Rattle.packed_pool.proofs.mark_first.Goals as goal

pub returns-then-known-gt0 : goal.returns-then-known-gt0
returns-then-known-gt0 c =
    λ names g. held-marked (omega arith) g c.if-known-gt0.true (c.recall_recent-known.ensures (hash_in c.args.tables.now) c.args.pool.now names g c.if-known-gt0.true)

pub returns : goal.returns
returns c =
    λ names g. noted-marked c.args.place.offset.0 c.args.place.length c.note.ensures (c.mark_name-mark.ensures names g)
