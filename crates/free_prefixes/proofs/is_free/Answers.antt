-- `free_prefixes::is_free` meets its contract.
use Rattle.free_prefixes.proofs.Free.{free-read}
use Rattle.free_prefixes.proofs.is_free.Goals as goal

pub returns : goal.returns
returns c = free-read c.args.notes.now c.args.tops.now c.args.attribute.0 c.name-prefix.ensures c.nearest.ensures
