-- `beginning::begin_in` meets its contract.
use mathlib.Core.Path.{sym, ◌∙◌}
use borrow.Author.Tests.{ltb-true, ltb-false}
use Rattle.beginning.proofs.Refused.{refused, no_row}
use Rattle.beginning.proofs.Beginning.{begun-refused, begun-asked, few-numbers}
use Rattle.std.proofs.lemmas.Result.{err_from_is_err_and}
use Rattle.beginning.proofs.begin_in.Goals as goal

pub check_numbered-requires : goal.check_numbered-requires
check_numbered-requires g c = c.requires.lent

pub number_of_name-requires : goal.number_of_name-requires
number_of_name-requires g c =
    let named = c.check_numbered.ensures.named c.in_ok-check_numbered.was in record { dictionary = named.right; dictionary_bound = few-numbers c.args.table.now c.args.pool.now c.args.row.0 c.args.name.now c.args.notes.now _ _ (sym c.check_numbered.ensures.value ∙ c.in_ok-check_numbered.was) named }

pub returns : goal.returns
returns g c =
    begun-asked c.args.table.now c.args.pool.now c.args.row.0 c.args.name.now c.args.notes.now _ _ (sym c.check_numbered.ensures.value ∙ c.in_ok-check_numbered.was) (c.check_numbered.ensures.named c.in_ok-check_numbered.was) c.requires.blank c.check_numbered.auto.notes c.check_numbered.ensures.by_index (ltb-true _ _ (sym c.has_row.ensures ∙ c.if-not-has_row.false)) _ c.number_of_name.ensures.by_index

pub returns-then-not-has_row : goal.returns-then-not-has_row
returns-then-not-has_row g c =
    begun-refused c.args.table.now c.args.pool.now c.args.row.0 c.args.name.now _ _ (no_row c.args.table.now c.args.pool.now c.args.row.0 (sym c.check_numbered.ensures.value ∙ c.in_ok-check_numbered.was) (ltb-false _ _ (sym c.has_row.ensures ∙ c.if-not-has_row.true)))

pub returns-in_err-check_numbered : goal.returns-in_err-check_numbered
returns-in_err-check_numbered g c =
    let p = err_from_is_err_and c.from_residual.result c.from_residual.ensures.1 in
    rw (p.1, p.2)
    (begun-refused c.args.table.now c.args.pool.now c.args.row.0 c.args.name.now _ _ (refused c.args.table.now c.args.pool.now c.args.row.0 _ (sym c.check_numbered.ensures.value ∙ c.in_err-check_numbered.was)))
