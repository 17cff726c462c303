-- `scopes::owner_of` meets its contract.
use mathlib.Core.Bool.{true, false}
use Rattle.scopes.proofs.Reading.{owner-read}
use Rattle.scopes.proofs.owner_of.Goals as goal

pub returns-then-kind-parent : goal.returns-then-kind-parent
returns-then-kind-parent c =
    owner-read c.args.table.now c.args.row.0 c.kind.result c.parent-parent.result.0 c.kind.ensures c.parent-parent.ensures true c.if-kind-parent.true

pub returns : goal.returns
returns c =
    owner-read c.args.table.now c.args.row.0 c.kind.result c.parent-parent.result.0 c.kind.ensures c.parent-parent.ensures false c.if-kind-parent.false
