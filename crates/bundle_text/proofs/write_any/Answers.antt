-- `bundle_text::write_any` meets its contract.
use mathlib.Core.Path.{sym, ap, ◌∙◌}
use Rattle.rules.specs.Table.{MOST_ROWS}
use Rattle.bundles.specs.Operations.{WriteOutcome}
use Rattle.bundles.specs.Opening.{Opens}
use Rattle.bundles.proofs.Opening.{new-room}
use Rattle.markup.proofs.OverBundles.{text-not-open, text-open}
use Rattle.bundle_text.proofs.Over.{over-table}
use Rattle.bundle_text.proofs.write_any.Goals as goal

pub read_rows-requires : goal.read_rows-requires
read_rows-requires c = new-room c.args.bundle.now MOST_ROWS 0 (λ header few. few)

pub pool-pool-requires : goal.pool-pool-requires
pool-pool-requires c =
    let opened : Opens c.args.bundle.now c.read_rows.new.table c.in-Ok.n = c.read_rows.ensures.by_index _ c.in-Ok.is in
    opened.inside

pub table-requires : goal.table-requires
table-requires c =
    let opened : Opens c.args.bundle.now c.read_rows.new.table c.in-Ok.n = c.read_rows.ensures.by_index _ c.in-Ok.is in
    opened.room

pub returns-in-Ok : goal.returns-in-Ok
returns-in-Ok c =
    let opened : Opens c.args.bundle.now c.read_rows.new.table c.in-Ok.n = c.read_rows.ensures.by_index _ c.in-Ok.is in
    let is = over-table _ _ _ c.table.ensures ∙ text-open _ _ _ opened _ c.pool-pool.ensures _ _ in record { value = c.write.ensures.value ∙ ap (λ (o : WriteOutcome). o.answer) is; out_after = c.write.ensures.out_after ∙ ap (λ (o : WriteOutcome). o.bytes) is }

pub returns-in-Err : goal.returns-in-Err
returns-in-Err c =
    let is = sym (text-not-open _ _ (c.read_rows.ensures.bundle_value _ c.in-Err.is) _ _) in record { value = c.refuse.ensures.value ∙ ap (λ (o : WriteOutcome). o.answer) is; out_after = c.refuse.ensures.out_after ∙ ap (λ (o : WriteOutcome). o.bytes) is }
