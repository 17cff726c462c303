-- `children::is_kind` meets its contract.
use Rattle.children.proofs.Linking.{owned-kind, content-kind}
use Rattle.children.proofs.is_kind.Goals as goal

pub returns-then-owned : goal.returns-then-owned
returns-then-owned c = owned-kind c.args.kind c.if-owned.true

pub returns : goal.returns
returns c = content-kind c.args.kind c.if-owned.false
