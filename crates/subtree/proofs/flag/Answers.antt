-- `subtree::flag` meets its contract.
use native.Mathlib.Omega.{arith}
use mathlib.Core.Bool.{true, false}
use mathlib.Core.Path.{sym, ◌∙◌}
use Rattle.subtree.proofs.Flags.{flag-stored}
use Rattle.subtree.proofs.flag.Goals as goal

pub returns-then-is_inside : goal.returns-then-is_inside
returns-then-is_inside c =
    flag-stored c.args.table.now c.args.flags.now c.args.element.0 c.args.row.0 c.requires.row_bound.0 c.requires.flagged (omega (arith, c.requires.row_bound.0, c.requires.row_bound.1)) true (λ pool. sym c.if-is_inside.true ∙ c.is_inside.ensures pool)

pub returns-else-is_inside : goal.returns-else-is_inside
returns-else-is_inside c =
    flag-stored c.args.table.now c.args.flags.now c.args.element.0 c.args.row.0 c.requires.row_bound.0 c.requires.flagged (omega (arith, c.requires.row_bound.0, c.requires.row_bound.1)) false (λ pool. sym c.if-is_inside.false ∙ c.is_inside.ensures pool)
