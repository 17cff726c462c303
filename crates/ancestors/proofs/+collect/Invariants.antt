-- The measure is the row, which falls with each step.
use Rattle.ancestors.proofs.+collect.Given as goal

abbrev pub decreases-collect : goal.decreases-collect
decreases-collect l = l.row.0
