-- `look_named` meets its contract.
use mathlib.Core.Path.{sym, ◌∙◌}
use Rattle.rules.proofs.Lists.{both_true, true-not-false}
use Rattle.plain_rows.proofs.Laws.{named-told}
use Rattle.plain_rows.proofs.look_named.Goals as goal

pub returns-then-local-eq0 : goal.returns-then-local-eq0
returns-then-local-eq0 c = λ e. absurd (true-not-false e c.not_plain.ensures)

pub returns : goal.returns
returns c =
    λ e.
    let a = both_true _ c.good_names-good.result e in
    let b = both_true _ c.see-uri.result.known a.0 in
    let d = both_true c.see-local.result.known c.see-prefix.result.known b.0 in
    named-told c.args.table.now c.args.pool.now c.args.dictionary.now c.args.row.0 c.requires.row_value c.parent-owner.ensures c.kind-kind.ensures (c.see-prefix.ensures.known d.1) (c.see-prefix.ensures.kind_value d.1) (c.see-local.ensures.known d.0) (c.see-local.ensures.kind_value d.0) (c.see-uri.ensures.known b.1) (c.see-uri.ensures.kind_value b.1) (sym c.good_names-good.ensures ∙ a.1)
