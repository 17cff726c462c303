-- `bundle_resolver::lookup_in` meets its contract.
use mathlib.Core.Path.{sym, ◌∙◌}
use Rattle.bundles.proofs.Over.{lookup-not-open, lookup-open}
use Rattle.bundle_resolver.proofs.Over.{over-table}
use Rattle.std.proofs.lemmas.Result.{err_from_is_err_and}
use Rattle.bundle_resolver.proofs.lookup_in.Goals as goal

pub table-table-requires : goal.table-table-requires
table-table-requires g c =
    let opened = c.read_rows.ensures.by_index _ c.in_ok-rows.was in
    opened.room

pub pool-requires : goal.pool-requires
pool-requires g c =
    let opened = c.read_rows.ensures.by_index _ c.in_ok-rows.was in
    opened.inside

pub returns : goal.returns
returns g c =
    let opened = c.read_rows.ensures.by_index _ c.in_ok-rows.was in
    c.lookup.ensures ∙ over-table _ _ _ _ c.table-table.ensures ∙ lookup-open _ _ _ opened _ c.pool.ensures _ _ _

pub returns-in_err-rows : goal.returns-in_err-rows
returns-in_err-rows g c =
    let p = err_from_is_err_and c.from_residual.result c.from_residual.ensures.1 in
    rw (p.1, p.2)
    (sym (lookup-not-open _ _ (c.read_rows.ensures.bundle_value _ c.in_err-rows.was) _ _ _))
