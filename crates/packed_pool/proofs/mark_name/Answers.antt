-- `mark_name` meets its contract.
use Prim.Native.Nat.{◌+◌}
use mathlib.Core.Path.{sym, ap, ◌∙◌}
use native.Mathlib.Omega.{arith}
use lib.ListN.{length}
use Rattle.packed_pool.proofs.Marking.{placed, inside-length, found_word, found-marked, new-marked, crowded}
use Rattle.tables.specs.Tables.{hash_in}
use Rattle.marks.specs.Marks.{between}
use Rattle.packed_pool.proofs.mark_name.Goals as goal

pub find-found-requires : goal.find-found-requires
find-found-requires c = (hash_in c.args.tables.now, c.requires.tables.1, c.hash_at-hash.ensures)

pub word-requires : goal.word-requires
word-requires c =
    found_word c.args.index.now (between c.args.pool.now c.args.place.offset.0 (c.args.place.offset.0 + c.args.place.length)) c.find-found.result.number.0 c.find-found.ensures c.requires.tables.1

pub returns-then-found-gt0 : goal.returns-then-found-gt0
returns-then-found-gt0 c =
    λ names g. found-marked c.args.index.now names (between c.args.pool.now c.args.place.offset.0 (c.args.place.offset.0 + c.args.place.length)) c.find-found.result.number.0 c.word.result (placed c.args.pool.now c.args.place.offset.0 c.args.place.length) c.find-found.ensures c.if-found-gt0.true c.word.ensures g

pub returns-then-easy-found : goal.returns-then-easy-found
returns-then-easy-found c =
    λ names g. crowded c.find-found.result.others (let room = c.requires.tables.1.room in omega arith) c.if-easy-found.true

pub add_name-requires : goal.add_name-requires
add_name-requires c =
    let w = c.requires.within.0 in (c.requires.tables.2, omega arith, sym (ap length (placed c.args.pool.now c.args.place.offset.0 c.args.place.length) ∙ inside-length c.args.pool.now c.args.place.offset.0 c.args.place.length w.0), w.2, c.requires.within.1)

pub returns : goal.returns
returns c =
    let w = c.requires.within.0 in λ names g. new-marked c.args.index.now names (between c.args.pool.now c.args.place.offset.0 (c.args.place.offset.0 + c.args.place.length)) c.args.place.offset.0 c.args.place.length c.hash_at-hash.result c.find-found.result.number.0 c.add_name.result c.requires.tables.2 (c.hash_at-hash.ensures ∙ ap (hash_in c.args.tables.now) (placed c.args.pool.now c.args.place.offset.0 c.args.place.length)) w.0 w.2 c.add_name.auto.out (placed c.args.pool.now c.args.place.offset.0 c.args.place.length) c.find-found.ensures (omega (arith, c.if-found-gt0.false)) c.add_name.ensures g
