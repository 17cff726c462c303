-- `name::bad` meets its contract.
use Rattle.rules.proofs.Accepted.{fields-encoded}
use Rattle.row_names.proofs.Tests.{kind-prefix, kind-local, names-good, names-tested}
use Rattle.row_names.proofs.name.bad.Goals as goal

pub returns-then-kinds : goal.returns-then-kinds
returns-then-kinds c = λ n at t k e. names-good n t k c.if-kinds.true at e c.is_level1-level1.ensures

pub returns : goal.returns
returns c =
    λ n at t k e.
    let w = fields-encoded at n e in
    names-tested n t k c.is_level1-level1.ensures (c.is_good.ensures n.prefix.bytes (kind-prefix n k) w.prefix) (c.is_good-2.ensures n.local.bytes (kind-local n k) w.local)
