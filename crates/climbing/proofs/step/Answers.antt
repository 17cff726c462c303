-- `climbing::step` meets its contract.
use mathlib.Core.Path.{sym, ◌∙◌}
use Rattle.climbing.proofs.Collected.{step-on, step-full, step_end}
use Rattle.climbing.proofs.step.Goals as goal

pub returns-then-taken-path : goal.returns-then-taken-path
returns-then-taken-path c =
    step-on c.args.table.now c.args.path.now c.args.row.0 c.args.count c.kind-kind.result c.parent-parent.result.0 c.requires.0 c.kind-kind.ensures c.parent-parent.ensures c.requires.1 c.enter-taken.result c.enter-taken.new.path c.enter-taken.ensures.value c.enter-taken.ensures.path_after (sym c.leads_out.ensures ∙ c.if-leads_out.true) c.if-taken-path.true

pub returns-else-taken-path : goal.returns-else-taken-path
returns-else-taken-path c =
    step-full c.args.table.now c.args.path.now c.args.row.0 c.args.count c.kind-kind.result c.parent-parent.result.0 c.requires.0 c.kind-kind.ensures c.parent-parent.ensures c.requires.1 c.enter-taken.result c.enter-taken.new.path c.enter-taken.ensures.value c.enter-taken.ensures.path_after c.if-taken-path.false

pub returns-else-leads_out : goal.returns-else-leads_out
returns-else-leads_out c =
    step_end c.args.table.now c.args.path.now c.args.row.0 c.args.count c.kind-kind.result c.parent-parent.result.0 c.requires.0 c.kind-kind.ensures c.parent-parent.ensures c.requires.1 c.enter-taken.result c.enter-taken.new.path c.enter-taken.ensures.value c.enter-taken.ensures.path_after (sym c.leads_out.ensures ∙ c.if-leads_out.false)
