-- `ancestors::ancestor` meets its contract.
use native.Mathlib.Omega.{arith}
use mathlib.Core.Path.{◌∙◌}
use Rattle.ancestors.proofs.Nearest.{ancestor-found, ancestor-missing, ancestor-none}
use Rattle.ancestors.proofs.ancestor.Goals as goal

pub returns-then-collect-eq1 : goal.returns-then-collect-eq1
returns-then-collect-eq1 c =
    λ pool. c.row_at.ensures
    ∙ ancestor-found c.args.table.now pool c.args.row.0 c.parent-parent.result.0 c.requires c.parent-parent.ensures (omega arith) c.collect.new.path c.collect.result c.collect.ensures.upper_bound
    (c.collect.ensures.by_index pool) c.if-collect-eq1.true

pub returns-else-collect-eq1 : goal.returns-else-collect-eq1
returns-else-collect-eq1 c =
    λ pool. ancestor-missing c.args.table.now pool c.args.row.0 c.parent-parent.result.0 c.requires c.parent-parent.ensures (omega arith) c.collect.new.path c.collect.result c.collect.ensures.upper_bound
    (c.collect.ensures.by_index pool) c.if-collect-eq1.false c.collect.auto.path

pub returns-else-parent-row : goal.returns-else-parent-row
returns-else-parent-row c =
    λ pool. ancestor-none c.args.table.now pool c.args.row.0 c.parent-parent.result.0 c.requires c.parent-parent.ensures (omega arith)
