-- `subtree::is_inside` meets its contract.
use native.Mathlib.Omega.{arith}
use Rattle.subtree.proofs.Flags.{inside-self, inside-parent, inside-none}
use Rattle.subtree.proofs.is_inside.Goals as goal

pub returns-then-row-element : goal.returns-then-row-element
returns-then-row-element c =
    inside-self c.args.table.now c.args.flags.now c.args.element.0 c.args.row.0 c.requires.row_bound.0 c.requires.flagged c.if-row-element.true

pub is_flagged-requires : goal.is_flagged-requires
is_flagged-requires c = omega (arith, c.requires.row_bound.0, c.requires.row_bound.1)

pub returns-then-parent-row : goal.returns-then-parent-row
returns-then-parent-row c =
    inside-parent c.args.table.now c.args.flags.now c.args.element.0 c.args.row.0 c.requires.row_bound.0 c.requires.flagged c.if-row-element.false c.parent-parent.result.0 c.parent-parent.ensures c.if-parent-row.true c.is_flagged.ensures

pub returns : goal.returns
returns c =
    inside-none c.args.table.now c.args.flags.now c.args.element.0 c.args.row.0 c.requires.row_bound.0 c.requires.flagged c.if-row-element.false c.parent-parent.result.0 c.parent-parent.ensures (omega (arith, c.if-parent-row.false))
