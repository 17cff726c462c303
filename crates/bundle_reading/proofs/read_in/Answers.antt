-- `bundle_reading::read_in` meets its contract.
use Rattle.std.proofs.Common.{List, ℕ, sym, ap, ◌∙◌, length}
use Rattle.rules.specs.Outputs.{Outcome}
use Rattle.bundles.specs.Operations.{table_read}
use Rattle.bundles.proofs.Over.{read-not-open, read-open}
use Rattle.bundle_reading.proofs.read_in.Goals as goal

pub table-table-requires : goal.table-table-requires
table-table-requires g c = (c.read_rows.ensures.by_index _ c.in-Ok.is).room

pub pool-pool-requires : goal.pool-pool-requires
pool-pool-requires g c = (c.read_rows.ensures.by_index _ c.in-Ok.is).inside

pub read-requires : goal.read-requires
read-requires g c = c.check.ensures

pub returns-in-Ok : goal.returns-in-Ok
returns-in-Ok g c =
    let opened = c.read_rows.ensures.by_index _ c.in-Ok.is in
    let is =
    ap (λ (t : List ℕ). table_read t c.pool-pool.result.now (length c.args.out_table.now) (length c.args.out_pool.now)) c.table-table.ensures
    ∙ read-open _ _ _ opened _ c.pool-pool.ensures _ _ in
    record { value = c.read.ensures.value ∙ ap (λ (o : Outcome). o.answer) is; out_table_after = c.read.ensures.out_table_after ∙ ap (λ (o : Outcome). o.table) is; out_pool_after = c.read.ensures.out_pool_after ∙ ap (λ (o : Outcome). o.pool) is }

pub returns-in-Err : goal.returns-in-Err
returns-in-Err g c =
    let is = sym (read-not-open _ _ (c.read_rows.ensures.bundle_value _ c.in-Err.is) _ _) in
    record { value = c.refuse.ensures.value ∙ ap (λ (o : Outcome). o.answer) is; out_table_after = c.refuse.ensures.out_table_after ∙ ap (λ (o : Outcome). o.table) is; out_pool_after = c.refuse.ensures.out_pool_after ∙ ap (λ (o : Outcome). o.pool) is }
