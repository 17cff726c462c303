-- `is_owned` meets its contract.
use Rattle.doubles.proofs.Keys.{owned-read}
use Rattle.doubles.proofs.is_owned.Goals as goal

pub returns : goal.returns
returns c = λ notes. owned-read c.args.table.now notes c.args.row.0 c.parent-owner.ensures c.kind-kind.ensures
