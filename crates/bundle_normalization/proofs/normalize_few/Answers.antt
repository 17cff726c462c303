-- `bundle_normalization::normalize_few` meets its contract.
use Prim.Native.Nat.{◌*◌, ◌≤◌}
use mathlib.Core.Path.{sym, ap, ◌∙◌}
use native.Mathlib.Omega.{arith}
use lib.ListN.{length}
use Rattle.table_size.specs.Small.{FEW_ROWS, FEW_BYTES}
use Rattle.bundles.specs.Bundles.{bundle_pool}
use Rattle.bundles.specs.Operations.{WriteOutcome}
use Rattle.bundles.specs.Opening.{Opens}
use Rattle.bundles.proofs.Opening.{new-room}
use Rattle.bundles.proofs.Over.{normalize-not-open, normalize-open}
use Rattle.bundle_normalization.specs.Small.{FEW_WORK}
use Rattle.bundle_normalization.proofs.Room.{room_for, fits_work, rows_few, pool-few}
use Rattle.bundle_normalization.proofs.normalize_few.Goals as goal

pub read_rows-requires : goal.read_rows-requires
read_rows-requires c =
    new-room c.args.bundle.now (2 * FEW_ROWS) 0 (λ header few. let small = c.requires.few header in omega arith)

pub copy_pool-bytes-requires : goal.copy_pool-bytes-requires
copy_pool-bytes-requires c =
    let opened : Opens c.args.bundle.now c.read_rows.new.table c.in-Ok.n = c.read_rows.ensures.by_index _ c.in-Ok.is in
    let short : length ((bundle_pool c.args.bundle.now)) ≤ FEW_BYTES = pool-few _ _ _ (opened) c.requires in
    let fits = short in record { bundle_in_bounds = opened.inside; bundle_in_bounds_2 = fits_work ((bundle_pool c.args.bundle.now)) FEW_WORK (omega arith) }

pub normalize_few-made-requires : goal.normalize_few-made-requires
normalize_few-made-requires c =
    let opened : Opens c.args.bundle.now c.read_rows.new.table c.in-Ok.n = c.read_rows.ensures.by_index _ c.in-Ok.is in
    let short : length ((bundle_pool c.args.bundle.now)) ≤ FEW_BYTES = pool-few _ _ _ (opened) c.requires in
    let words = c.read_rows.auto.table in
    let few = opened.few in
    let within = rows_few _ _ _ opened c.requires in
    let fits = short in record { room_for = room_for _ _ _ _ FEW_ROWS FEW_BYTES (omega arith) c.copy_pool-bytes.auto.work (omega arith) (omega arith) (omega arith) (omega arith); rows_bound = omega arith }

pub write_made-requires : goal.write_made-requires
write_made-requires c = (_, _, c.normalize_few-made.ensures)

pub returns-in-Ok : goal.returns-in-Ok
returns-in-Ok c =
    let opened : Opens c.args.bundle.now c.read_rows.new.table c.in-Ok.n = c.read_rows.ensures.by_index _ c.in-Ok.is in
    let is = normalize-open _ _ _ opened _ c.copy_pool-bytes.ensures.work_after _ in record { value = c.write_made.ensures.by_index _ _ c.normalize_few-made.ensures ∙ ap (λ (o : WriteOutcome). o.answer) is; out_after = c.write_made.ensures.by_index_2 _ _ c.normalize_few-made.ensures ∙ ap (λ (o : WriteOutcome). o.bytes) is }

pub returns-in-Err : goal.returns-in-Err
returns-in-Err c =
    let is = sym (normalize-not-open _ _ (c.read_rows.ensures.bundle_value _ c.in-Err.is) _) in record { value = c.refuse.ensures.value ∙ ap (λ (o : WriteOutcome). o.answer) is; out_after = c.refuse.ensures.out_after ∙ ap (λ (o : WriteOutcome). o.bytes) is }
