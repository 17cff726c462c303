-- `bundle_check::check_in` meets its contract.
use Rattle.std.proofs.Common.{ℕ, List, sym, ap, ◌∙◌}
use Rattle.std.proofs.lemmas.Result.{err_from_is_err_and}
use Rattle.rules.specs.Refusals.{checked}
use Rattle.bundles.proofs.Over.{check-not-open, check-open}
use Rattle.bundle_check.proofs.check_in.Goals as goal

pub table-requires : goal.table-requires
table-requires g c = (c.read_rows.ensures.by_index _ c.in_ok-rows.was).room

pub pool-requires : goal.pool-requires
pool-requires g c = (c.read_rows.ensures.by_index _ c.in_ok-rows.was).inside

pub returns : goal.returns
returns g c =
    let opened = c.read_rows.ensures.by_index _ c.in_ok-rows.was in
    c.check.ensures ∙ ap (λ (t : List ℕ). checked t c.pool.result.now) c.table.ensures ∙ check-open _ _ _ opened _ c.pool.ensures

pub returns-in_err-rows : goal.returns-in_err-rows
returns-in_err-rows g c =
    let p = err_from_is_err_and c.from_residual.result c.from_residual.ensures.1 in
    rw (p.1, p.2)
    (sym (check-not-open _ _ (c.read_rows.ensures.bundle_value _ c.in_err-rows.was)))
