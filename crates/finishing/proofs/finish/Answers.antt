-- `finishing::finish` meets its contract.
use Rattle.std.specs.Prelude.{Ok}
use Prim.Native.Nat.{◌*◌, ◌≤◌}
use mathlib.Core.Path.{◌≡◌, refl, sym, ◌∙◌}
use lib.ListN.{length}
use lib.Seq.{length-take-le}
use Rattle.rules.specs.Table.{WIDTH}
use Rattle.rules.specs.Refusals.{verdict}
use Rattle.outputs.specs.Ended.{room_lack}
use Rattle.outputs.proofs.Ended.{enough-rows, enough-bytes, ended-refused, ended-done}
use Rattle.finishing.proofs.finish.Goals as goal

pub clear_words-requires : goal.clear_words-requires
clear_words-requires c =
    let fact : verdict (room_lack c.args.limit (length c.args.out_pool.now) c.args.rows c.args.bytes) ≡ (Ok tt) = sym c.room.ensures ∙ c.in-Ok.is in
    let fact2 : (WIDTH * c.args.rows ≤ length c.args.out_table.now) × (c.args.bytes ≤ length c.args.work.now) = c.requires (enough-rows _ _ _ _ fact) in
    fact2.0

pub slice_bounds-copy_bytes-end : goal.slice_bounds-copy_bytes-end
slice_bounds-copy_bytes-end c =
    let fact : verdict (room_lack c.args.limit (length c.args.out_pool.now) c.args.rows c.args.bytes) ≡ (Ok tt) = sym c.room.ensures ∙ c.in-Ok.is in
    let fact2 : (WIDTH * c.args.rows ≤ length c.args.out_table.now) × (c.args.bytes ≤ length c.args.work.now) = c.requires (enough-rows _ _ _ _ fact) in
    sym (length-take-le _ _ fact2.1)

pub copy_bytes-requires : goal.copy_bytes-requires
copy_bytes-requires c =
    let fact : verdict (room_lack c.args.limit (length c.args.out_pool.now) c.args.rows c.args.bytes) ≡ (Ok tt) = sym c.room.ensures ∙ c.in-Ok.is in
    let fact2 : (WIDTH * c.args.rows ≤ length c.args.out_table.now) × (c.args.bytes ≤ length c.args.work.now) = c.requires (enough-rows _ _ _ _ fact) in
    rw (length-take-le _ _ fact2.1) (enough-bytes _ _ _ _ fact)

pub clear_bytes-requires : goal.clear_bytes-requires
clear_bytes-requires c =
    let fact : verdict (room_lack c.args.limit (length c.args.out_pool.now) c.args.rows c.args.bytes) ≡ (Ok tt) = sym c.room.ensures ∙ c.in-Ok.is in
    rw c.copy_bytes.auto.pool (enough-bytes _ _ _ _ fact)

pub returns-in-Ok : goal.returns-in-Ok
returns-in-Ok c =
    let fact : verdict (room_lack c.args.limit (length c.args.out_pool.now) c.args.rows c.args.bytes) ≡ (Ok tt) = sym c.room.ensures ∙ c.in-Ok.is in
    let fact2 : (WIDTH * c.args.rows ≤ length c.args.out_table.now) × (c.args.bytes ≤ length c.args.work.now) = c.requires (enough-rows _ _ _ _ fact) in
    let all = ended-done _ _ _ _ _ _ fact fact2.0 fact2.1 c.args.out_pool.now refl
    c.clear_words.ensures c.copy_bytes.ensures c.clear_bytes.ensures in record { value = all.0; out_table_after = all.1.0; out_pool_after = all.1.1 }

pub returns-in-Err : goal.returns-in-Err
returns-in-Err c =
    let all = ended-refused _ _ _ _ _ _ (sym c.room.ensures ∙ c.in-Err.is) (c.refuse.ensures.value, (c.refuse.ensures.out_table_after, c.refuse.ensures.out_pool_after)) in record { value = all.0; out_table_after = all.1.0; out_pool_after = all.1.1 }
