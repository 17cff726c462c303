-- `scopes::up` meets its contract.
use native.Mathlib.Omega.{arith}
use mathlib.Core.Path.{ap, ◌∙◌}
use Rattle.rules.specs.Table.{PARENT, word}
use Rattle.scopes.proofs.Reading.{up-read, up_none}
use Rattle.scopes.proofs.up.Goals as goal

pub returns-then-parent-row : goal.returns-then-parent-row
returns-then-parent-row c =
    let p = c.parent-parent.ensures ∙ ap (λ r. word c.args.table.now r PARENT) c.row_at-row.ensures in
    c.position_of.ensures ∙ up-read c.args.table.now c.args.position.0 c.parent-parent.result.0 p (omega arith)

pub returns : goal.returns
returns c =
    let p = c.parent-parent.ensures ∙ ap (λ r. word c.args.table.now r PARENT) c.row_at-row.ensures in
    up_none c.args.table.now c.args.position.0 c.parent-parent.result.0 p (omega arith)
