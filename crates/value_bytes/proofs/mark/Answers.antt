-- `mark` meets its contract.
use Rattle.value_bytes.proofs.mark.Goals as goal

pub returns-then-ascii : goal.returns-then-ascii
returns-then-ascii c = c.requires.in_bounds.1

pub returns-then-sum_of_lengths-pool : goal.returns-then-sum_of_lengths-pool
returns-then-sum_of_lengths-pool c = c.requires.in_bounds.1

pub returns : goal.returns
returns c = c.make.ensures.marked
