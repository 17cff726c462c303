-- `pack_accepted` meets its contract.
use mathlib.Core.Path.{refl}
use native.Mathlib.Omega.{arith}
use lib.ListN.{length}
use Rattle.packer.proofs.Outcome.{packed-no-bytes, packed-answers, refuse-answers}
use Rattle.packed_table.proofs.Going.{few-rows}
use Rattle.rules.proofs.Lists.{not-true, not-false}
use Rattle.rules.specs.declared.Refusal.{Refusal}
use Rattle.packer.proofs.pack_accepted.Goals as goal

pub pack-made-requires : goal.pack-made-requires
pack-made-requires c = record { enough = c.requires.enough; dictionary = c.requires.dictionary; by_index = c.requires.by_index }

pub returns-then-not-made : goal.returns-then-not-made
returns-then-not-made c =
    let q = c.requires.table_in_bounds in
    let long = c.pack-made.ensures.past (not-true _ c.if-not-made.true) refl in
    let o = packed-no-bytes c.args.table.now c.args.pool.now (length c.args.out_table.now) (length c.args.out_pool.now) c.requires.enough.accepted (few-rows c.args.table.now c.args.pool.now c.requires.enough.accepted) q.0 q.1 long in
    let a = refuse-answers Refusal.PoolRoom o c.pack-made.auto.out_table c.pack-made.auto.out c.refuse.ensures.value c.refuse.ensures.out_table_after c.refuse.ensures.out_pool_after in record { value = a.said; out_table_after = a.rows; out_pool_after = a.bytes }

pub clear_words-requires : goal.clear_words-requires
clear_words-requires c =
    let rows = c.requires.table_in_bounds.0 in
    let long = c.pack-made.auto.out_table in
    omega arith

pub clear_bytes-requires : goal.clear_bytes-requires
clear_bytes-requires c =
    let short = c.pack-made.ensures.short (not-false _ c.if-not-made.false) in
    let room = c.requires.table_in_bounds.1.room in
    let long = c.pack-made.auto.out in
    omega arith

pub returns : goal.returns
returns c =
    let q = c.requires.table_in_bounds in
    let a = packed-answers c.args.table.now c.args.pool.now c.args.out_table.now c.args.out_pool.now c.requires.enough.accepted (few-rows c.args.table.now c.args.pool.now c.requires.enough.accepted) q.0 q.1 c.row_count-rows.ensures c.pack-made.ensures (not-false _ c.if-not-made.false) c.pack-made.auto.out_table c.pack-made.auto.out c.clear_words.ensures c.clear_bytes.ensures in record { value = a.said; out_table_after = a.rows; out_pool_after = a.bytes }
