-- `marked_part` meets its contract.
use mathlib.Core.Path.{sym, ap, ◌∙◌}
use mathlib.Core.Bool.{not}
use native.Mathlib.Omega.{arith}
use Rattle.marks.proofs.Cutting.{head-fails, rest-decides, end-decides}
use Rattle.marks.proofs.marked_part.Goals as goal

pub returns-then-not-well_formed : goal.returns-then-not-well_formed
returns-then-not-well_formed c =
    head-fails c.args.pool.now c.args.start c.args.first c.args.reach c.args.end c.requires.mark c.requires.start_le_first.0 c.requires.start_le_first.1 c.requires.start_le_first.2 (sym c.well_formed-2.ensures ∙ c.if-not-well_formed.true)

pub returns-then-reach-end : goal.returns-then-reach-end
returns-then-reach-end c =
    c.well_formed-then-reach-end.ensures ∙ rest-decides c.args.pool.now c.args.start c.args.first c.args.reach c.args.end c.requires.mark c.requires.start_le_first.0 c.requires.start_le_first.1 c.requires.start_le_first.2 (sym c.well_formed-2.ensures ∙ c.if-not-well_formed.false) (omega arith)

pub returns : goal.returns
returns c =
    ap not c.is_tail.ensures ∙ end-decides c.args.pool.now c.args.start c.args.first c.args.reach c.args.end c.requires.mark c.requires.start_le_first.0 c.requires.start_le_first.1 c.requires.start_le_first.2 (sym c.well_formed-2.ensures ∙ c.if-not-well_formed.false) (omega arith)
