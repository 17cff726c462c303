-- `is_seen` meets its contract.
use Rattle.packed_pool.proofs.is_seen.Goals as goal

pub returns : goal.returns
returns c = rw (c.seen.ensures, c.seen-2.ensures)
