-- `reach_from` meets its contract.
use mathlib.Core.Path.{sym, ◌∙◌}
use Rattle.marks.proofs.Cutting.{mark-joined, mark-anew}
use Rattle.marks.proofs.reach_from.Goals as goal

pub returns-then-well_formed : goal.returns-then-well_formed
returns-then-well_formed c =
    mark-joined c.args.pool.now c.args.first c.args.start c.args.end c.requires.start c.requires.mark (sym c.well_formed-2.ensures ∙ c.if-well_formed.true)

pub returns : goal.returns
returns c = mark-anew c.args.pool.now c.args.first c.args.start c.args.end c.requires.start c.requires.mark
