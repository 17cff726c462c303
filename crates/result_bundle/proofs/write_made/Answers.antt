-- `result_bundle::write_made` meets its contract.
use mathlib.Core.Path.{sym}
use native.Mathlib.Omega.{arith}
use lib.Seq.{length-take-le}
use Rattle.result_bundle.proofs.Results.{sized-result, rows_few, normalized-done, normalized-refused}
use Rattle.result_bundle.proofs.write_made.Goals as goal

pub overflow_mul-rows : goal.overflow_mul-rows
overflow_mul-rows c =
    let few = rows_few _ _ c.requires.2.told _ _ c.in-Ok.is (c.requires.2.holds _ _ c.in-Ok.is) in
    omega arith

pub slice_bounds-write_bundle-end : goal.slice_bounds-write_bundle-end
slice_bounds-write_bundle-end c = sym (length-take-le _ _ (c.requires.2.holds _ _ c.in-Ok.is).table_room)

pub slice_bounds-write_bundle-end-in-Ok : goal.slice_bounds-write_bundle-end-in-Ok
slice_bounds-write_bundle-end-in-Ok c = sym (length-take-le _ _ (c.requires.2.holds _ _ c.in-Ok.is).pool_room)

pub write_bundle-requires : goal.write_bundle-requires
write_bundle-requires c = sized-result _ _ c.requires.2.told _ _ c.in-Ok.is (c.requires.2.holds _ _ c.in-Ok.is)

pub returns-in-Ok : goal.returns-in-Ok
returns-in-Ok c =
    record { by_index = λ table pool made. (normalized-done table pool made.told _ _ c.in-Ok.is (made.holds _ _ c.in-Ok.is) _ (c.write_bundle.ensures.value, c.write_bundle.ensures.out_after)).0; by_index_2 = λ table pool made. (normalized-done table pool made.told _ _ c.in-Ok.is (made.holds _ _ c.in-Ok.is) _ (c.write_bundle.ensures.value, c.write_bundle.ensures.out_after)).1 }

pub returns-in-Err : goal.returns-in-Err
returns-in-Err c =
    record { by_index = λ table pool made. (normalized-refused table pool _ made.told _ c.in-Err.is (c.refuse.ensures.value, c.refuse.ensures.out_after)).0; by_index_2 = λ table pool made. (normalized-refused table pool _ made.told _ c.in-Err.is (c.refuse.ensures.value, c.refuse.ensures.out_after)).1 }
