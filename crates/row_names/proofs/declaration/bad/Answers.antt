-- `declaration::bad` meets its contract.
use Rattle.row_names.proofs.Tests.{declaration-tested}
use Rattle.row_names.proofs.declaration.bad.Goals as goal

pub returns : goal.returns
returns c = λ n d l v. declaration-tested n d l v
