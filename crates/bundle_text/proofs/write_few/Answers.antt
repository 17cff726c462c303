-- `bundle_text::write_few` meets its contract.
use Prim.Native.Nat.{ℕ, ◌≤◌}
use mathlib.Core.List.{List}
use mathlib.Core.Path.{sym, ap, subst, ◌∙◌}
use Rattle.rules.specs.Table.{row_count}
use Rattle.table_size.specs.Small.{FEW_ROWS}
use Rattle.bundles.specs.Operations.{WriteOutcome}
use Rattle.bundles.specs.Opening.{Opens}
use Rattle.bundles.proofs.Opening.{new-room, opened-few}
use Rattle.markup.proofs.OverBundles.{text-not-open, text-open}
use Rattle.bundle_text.proofs.Over.{over-table}
use Rattle.bundle_text.proofs.write_few.Goals as goal

pub read_rows-requires : goal.read_rows-requires
read_rows-requires c = new-room c.args.bundle.now FEW_ROWS 0 (λ header few. c.requires header)

pub pool-pool-requires : goal.pool-pool-requires
pool-pool-requires c =
    let opened : Opens c.args.bundle.now c.read_rows.new.table c.in-Ok.n = c.read_rows.ensures.by_index _ c.in-Ok.is in
    opened.inside

pub table-requires : goal.table-requires
table-requires c =
    let opened : Opens c.args.bundle.now c.read_rows.new.table c.in-Ok.n = c.read_rows.ensures.by_index _ c.in-Ok.is in
    opened.room

pub write_few-requires : goal.write_few-requires
write_few-requires c =
    let opened : Opens c.args.bundle.now c.read_rows.new.table c.in-Ok.n = c.read_rows.ensures.by_index _ c.in-Ok.is in
    subst (λ (t : List ℕ). row_count t ≤ FEW_ROWS) (sym c.table.ensures) (opened-few _ _ _ opened FEW_ROWS c.requires)

pub returns-in-Ok : goal.returns-in-Ok
returns-in-Ok c =
    let opened : Opens c.args.bundle.now c.read_rows.new.table c.in-Ok.n = c.read_rows.ensures.by_index _ c.in-Ok.is in
    let is = over-table _ _ _ c.table.ensures ∙ text-open _ _ _ opened _ c.pool-pool.ensures _ _ in record { value = c.write_few.ensures.value ∙ ap (λ (o : WriteOutcome). o.answer) is; out_after = c.write_few.ensures.out_after ∙ ap (λ (o : WriteOutcome). o.bytes) is }

pub returns-in-Err : goal.returns-in-Err
returns-in-Err c =
    let is = sym (text-not-open _ _ (c.read_rows.ensures.bundle_value _ c.in-Err.is) _ _) in record { value = c.refuse.ensures.value ∙ ap (λ (o : WriteOutcome). o.answer) is; out_after = c.refuse.ensures.out_after ∙ ap (λ (o : WriteOutcome). o.bytes) is }
