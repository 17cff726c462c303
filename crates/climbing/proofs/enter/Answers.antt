-- `climbing::enter` meets its contract.
use mathlib.Core.Path.{sym, ◌∙◌}
use Rattle.climbing.proofs.Collected.{entered, not_entered}
use Rattle.climbing.proofs.enter.Goals as goal

pub returns-then-is_element : goal.returns-then-is_element
returns-then-is_element c =
    let all = entered c.args.path.now c.args.kind c.args.row.0 c.args.count (sym c.is_element.ensures ∙ c.if-is_element.true) in record { value = all.0; path_after = all.1 }

pub returns : goal.returns
returns c =
    let all = not_entered c.args.path.now c.args.kind c.args.row.0 c.args.count (sym c.is_element.ensures ∙ c.if-is_element.false) in record { value = all.0; path_after = all.1 }
