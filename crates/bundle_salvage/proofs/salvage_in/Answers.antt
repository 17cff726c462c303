-- `bundle_salvage::salvage_in` meets its contract.
use Rattle.std.proofs.Common.{sym, ap, ◌∙◌, length, arith}
use Rattle.salvage.specs.Salvage.{RescueOutcome}
use Rattle.bundle_salvage.proofs.Over.{salvage-not-open, salvage-open, kept_table}
use Rattle.bundle_salvage.proofs.salvage_in.Goals as goal

pub table-table-requires : goal.table-table-requires
table-table-requires g c = (c.read_rows.ensures.by_index _ c.in-Ok.is).room

pub pool-pool-requires : goal.pool-pool-requires
pool-pool-requires g c = (c.read_rows.ensures.by_index _ c.in-Ok.is).inside

pub finish-requires : goal.finish-requires
finish-requires g c =
    let opened = c.read_rows.ensures.by_index _ c.in-Ok.is in
    let fits = opened.room in
    record { table = _; that = kept_table opened c.table-table.ensures _ (length c.args.list.now) (omega (arith, fits, c.read_rows.auto.table)) c.salvage-salvaged.auto.out_table c.salvage-salvaged.auto.list c.salvage-salvaged.ensures.value c.salvage-salvaged.ensures.out_table_after c.salvage-salvaged.ensures.list_after }

pub returns-in-Ok : goal.returns-in-Ok
returns-in-Ok g c =
    let opened = c.read_rows.ensures.by_index _ c.in-Ok.is in
    let fits = opened.room in
    let k = kept_table opened c.table-table.ensures _ (length c.args.list.now) (omega (arith, fits, c.read_rows.auto.table)) c.salvage-salvaged.auto.out_table c.salvage-salvaged.auto.list c.salvage-salvaged.ensures.value c.salvage-salvaged.ensures.out_table_after c.salvage-salvaged.ensures.list_after in
    let over = salvage-open opened c.table-table.ensures c.pool-pool.ensures (length c.args.out.now) c.salvage-salvaged.auto.list in
    record { value = c.finish.ensures.by_index _ k ∙ ap (λ (o : RescueOutcome). o.answer) over; out_after = c.finish.ensures.by_index_2 _ k ∙ ap (λ (o : RescueOutcome). o.bytes) over; list_after = c.finish.ensures.by_index_3 _ k ∙ ap (λ (o : RescueOutcome). o.list) over }

pub returns-in-Err : goal.returns-in-Err
returns-in-Err g c =
    let is = sym (salvage-not-open c.args.bundle.now (length c.args.out.now) (length c.args.list.now) _ (c.read_rows.ensures.bundle_value _ c.in-Err.is)) in
    record { value = c.refuse.ensures.value ∙ ap (λ (o : RescueOutcome). o.answer) is; out_after = c.refuse.ensures.out_after ∙ ap (λ (o : RescueOutcome). o.bytes) is; list_after = c.refuse.ensures.list_after ∙ ap (λ (o : RescueOutcome). o.list) is }
