-- `plain::is_nameless` meets its contract.
use mathlib.Core.Path.{sym, ◌∙◌}
use Rattle.rules.proofs.Lists.{both_true}
use Rattle.fields.proofs.plain.is_nameless.Goals as goal

pub returns : goal.returns
returns c =
    λ e.
    let a = both_true _ c.is_nothing-3.result e in
    let b = both_true c.is_nothing.result c.is_nothing-2.result a.0 in
    (sym c.is_nothing.ensures ∙ b.0, sym c.is_nothing-2.ensures ∙ b.1, sym c.is_nothing-3.ensures ∙ a.1)
