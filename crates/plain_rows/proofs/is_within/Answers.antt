-- `is_within` meets its contract.
use lib.ListN.{length}
use Rattle.plain_rows.proofs.Laws.{sum-read}
use Rattle.plain_rows.proofs.is_within.Goals as goal

pub returns : goal.returns
returns c = sum-read (length c.args.pool.now) c.wide.ensures c.wide-2.ensures
