-- `name::is_good` meets its contract.
use Rattle.row_names.proofs.Tests.{good-tested}
use Rattle.row_names.proofs.name.is_good.Goals as goal

pub returns : goal.returns
returns c = λ name k w. good-tested c.args.colons name k w
