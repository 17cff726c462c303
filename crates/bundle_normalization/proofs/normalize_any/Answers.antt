-- `bundle_normalization::normalize_any` meets its contract.
use Prim.Native.Nat.{◌≤◌}
use mathlib.Core.Path.{refl, sym, ap, ◌∙◌}
use native.Mathlib.Omega.{arith}
use lib.ListN.{length}
use Rattle.rules.specs.Table.{MOST_ROWS, MOST_BYTES}
use Rattle.normal_form.specs.Lent.{WORK}
use Rattle.bundles.specs.Bundles.{bundle_pool}
use Rattle.bundles.specs.Operations.{WriteOutcome}
use Rattle.bundles.specs.Opening.{Opens}
use Rattle.bundles.proofs.Opening.{new-room}
use Rattle.bundles.proofs.Over.{pool-short, normalize-not-open, normalize-open}
use Rattle.bundle_normalization.proofs.Room.{room_for, fits_work}
use Rattle.bundle_normalization.proofs.normalize_any.Goals as goal

pub read_rows-requires : goal.read_rows-requires
read_rows-requires c = new-room c.args.bundle.now MOST_ROWS 0 (λ header few. few)

pub copy_pool-bytes-requires : goal.copy_pool-bytes-requires
copy_pool-bytes-requires c =
    let opened : Opens c.args.bundle.now c.read_rows.new.table c.in-Ok.n = c.read_rows.ensures.by_index _ c.in-Ok.is in
    let short : length ((bundle_pool c.args.bundle.now)) ≤ MOST_BYTES = pool-short _ _ _ (opened) _ refl in
    let fits = short in record { bundle_in_bounds = opened.inside; bundle_in_bounds_2 = fits_work ((bundle_pool c.args.bundle.now)) WORK (omega arith) }

pub normalize-made-requires : goal.normalize-made-requires
normalize-made-requires c =
    let opened : Opens c.args.bundle.now c.read_rows.new.table c.in-Ok.n = c.read_rows.ensures.by_index _ c.in-Ok.is in
    let short : length ((bundle_pool c.args.bundle.now)) ≤ MOST_BYTES = pool-short _ _ _ (opened) _ refl in
    let words = c.read_rows.auto.table in
    let few = opened.few in
    let fits = short in
    room_for _ _ _ _ MOST_ROWS MOST_BYTES (omega arith) c.copy_pool-bytes.auto.work (omega arith) (omega arith) (omega arith) (omega arith)

pub write_made-requires : goal.write_made-requires
write_made-requires c = (_, _, c.normalize-made.ensures)

pub returns-in-Ok : goal.returns-in-Ok
returns-in-Ok c =
    let opened : Opens c.args.bundle.now c.read_rows.new.table c.in-Ok.n = c.read_rows.ensures.by_index _ c.in-Ok.is in
    let is = normalize-open _ _ _ opened _ c.copy_pool-bytes.ensures.work_after _ in record { value = c.write_made.ensures.by_index _ _ c.normalize-made.ensures ∙ ap (λ (o : WriteOutcome). o.answer) is; out_after = c.write_made.ensures.by_index_2 _ _ c.normalize-made.ensures ∙ ap (λ (o : WriteOutcome). o.bytes) is }

pub returns-in-Err : goal.returns-in-Err
returns-in-Err c =
    let is = sym (normalize-not-open _ _ (c.read_rows.ensures.bundle_value _ c.in-Err.is) _) in record { value = c.refuse.ensures.value ∙ ap (λ (o : WriteOutcome). o.answer) is; out_after = c.refuse.ensures.out_after ∙ ap (λ (o : WriteOutcome). o.bytes) is }
