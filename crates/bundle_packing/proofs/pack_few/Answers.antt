-- `pack_few` meets its contract.
use mathlib.Core.Path.{sym, ap, ◌∙◌}
use native.Mathlib.Omega.{arith}
use lib.ListN.{length}
use lib.Seq.{length-take-le}
use Rattle.table_size.specs.Small.{FEW_ROWS}
use Rattle.bundles.specs.Opening.{Opens}
use Rattle.bundles.specs.Operations.{WriteOutcome}
use Rattle.bundles.proofs.Opening.{new-room, opened-few}
use Rattle.packer.proofs.Outcome.{zeros-lent}
use Rattle.packed_bundle.proofs.Bundled.{pack-not-open, pack-open}
use Rattle.bundle_packing.proofs.pack_few.Goals as goal

pub read_rows-requires : goal.read_rows-requires
read_rows-requires c = new-room c.args.bundle.now FEW_ROWS 0 (λ header few. c.requires header)

pub table-table-requires : goal.table-table-requires
table-table-requires c =
    let opened : Opens c.args.bundle.now c.read_rows.new.table c.in-Ok.n = c.read_rows.ensures.by_index _ c.in-Ok.is in
    opened.room

pub pool-pool-requires : goal.pool-pool-requires
pool-pool-requires c =
    let opened : Opens c.args.bundle.now c.read_rows.new.table c.in-Ok.n = c.read_rows.ensures.by_index _ c.in-Ok.is in
    opened.inside

pub pack_lent-requires : goal.pack_lent-requires
pack_lent-requires c =
    let opened : Opens c.args.bundle.now c.read_rows.new.table c.in-Ok.n = c.read_rows.ensures.by_index _ c.in-Ok.is in
    let o = opened in
    let size = ap length c.table-table.ensures ∙ length-take-le _ _ o.room in
    let bound = o.few in
    let few = rw (sym c.table-table.ensures) at (opened-few _ _ _ o FEW_ROWS c.requires) in record { lent = zeros-lent _ FEW_ROWS (λ h. few); table_in_bounds = omega (arith, size, bound, few) }

pub returns-in-Ok : goal.returns-in-Ok
returns-in-Ok c =
    let opened : Opens c.args.bundle.now c.read_rows.new.table c.in-Ok.n = c.read_rows.ensures.by_index _ c.in-Ok.is in
    let is = pack-open _ _ _ opened _ _ c.table-table.ensures c.pool-pool.ensures _ in record { value = c.pack_lent.ensures.0 ∙ ap (λ (o : WriteOutcome). o.answer) is; out_after = c.pack_lent.ensures.1 ∙ ap (λ (o : WriteOutcome). o.bytes) is }

pub returns-in-Err : goal.returns-in-Err
returns-in-Err c =
    let is = sym (pack-not-open _ _ (c.read_rows.ensures.bundle_value _ c.in-Err.is) _) in record { value = c.refuse.ensures.value ∙ ap (λ (o : WriteOutcome). o.answer) is; out_after = c.refuse.ensures.out_after ∙ ap (λ (o : WriteOutcome). o.bytes) is }
