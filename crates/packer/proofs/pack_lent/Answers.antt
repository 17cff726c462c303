-- `pack_lent` meets its contract.
use mathlib.Core.Path.{refl}
use native.Mathlib.Omega.{arith}
use lib.ListN.{length}
use Rattle.packer.proofs.Outcome.{drawn-accepted, packed-no-rows, refuse-answers, checked-answers, lent-enough, named-noted}
use Rattle.packed_table.proofs.Going.{whole-rows}
use Rattle.rules.specs.declared.Refusal.{Refusal}
use Rattle.packer.proofs.pack_lent.Goals as goal

pub returns-then-out_table-row_count : goal.returns-then-out_table-row_count
returns-then-out_table-row_count c =
    let a = drawn-accepted c.args.table.now c.args.pool.now c.check_numbered.ensures.value c.in-Ok.is in
    let o = packed-no-rows c.args.table.now c.args.pool.now (length c.args.out_table.now) (length c.args.out_pool.now) a (rw c.row_count.ensures at c.if-out_table-row_count.true) in
    let w = refuse-answers Refusal.RowRoom o refl refl c.refuse.ensures.value c.refuse.ensures.out_table_after c.refuse.ensures.out_pool_after in record { value = w.said; out_table_after = w.rows; out_pool_after = w.bytes }

pub pack_accepted-requires : goal.pack_accepted-requires
pack_accepted-requires c =
    let a = drawn-accepted c.args.table.now c.args.pool.now c.check_numbered.ensures.value c.in-Ok.is in
    let named = c.check_numbered.ensures.named c.in-Ok.is in
    let whole = whole-rows c.args.table.now c.args.pool.now a in
    let rows = rw c.row_count.ensures at c.if-out_table-row_count.false in record { enough = lent-enough c.requires a c.check_numbered.auto.notes (omega arith) c.pool_limit-limit.ensures.most; dictionary = (named.right, c.requires.blank); by_index = (_, _, named-noted named); table_in_bounds = (rows, c.pool_limit-limit.ensures) }

pub returns-in-Err : goal.returns-in-Err
returns-in-Err c =
    let w = checked-answers c.args.table.now c.args.pool.now (length c.args.out_table.now) (length c.args.out_pool.now) c.check_numbered.ensures.value _ c.in-Err.is c.refuse-in-Err.ensures.value c.refuse-in-Err.ensures.out_table_after c.refuse-in-Err.ensures.out_pool_after in record { value = w.said; out_table_after = w.rows; out_pool_after = w.bytes }
