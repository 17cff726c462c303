-- `is_plain_small_first` meets its contract.
use Rattle.kinds.proofs.is_plain_small_first.Goals as goal

pub returns-then-b : goal.returns-then-b
returns-then-b c = rw c.if-b.true

pub returns : goal.returns
returns c = c.is_plain_byte.ensures
