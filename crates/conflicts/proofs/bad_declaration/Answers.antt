-- `bad_declaration` meets its contract.
use mathlib.Core.Path.{sym, ◌∙◌}
use Rattle.rules.specs.Table.{node_at}
use Rattle.conflicts.proofs.Laws.{declaration-other, declared-value}
use Rattle.conflicts.proofs.bad_declaration.Goals as goal

pub returns-then-kind-ne-DECLARATION : goal.returns-then-kind-ne-DECLARATION
returns-then-kind-ne-DECLARATION c =
    λ pool g n. declaration-other (node_at c.args.table.now pool c.args.row.0) c.kind.ensures c.if-kind-ne-DECLARATION.true

pub name_kind-local-requires : goal.name_kind-local-requires
name_kind-local-requires c = rw c.name.ensures c.requires.known.local

pub name_kind-value-requires : goal.name_kind-value-requires
name_kind-value-requires c = rw c.name-2.ensures c.requires.known.value

pub returns : goal.returns
returns c =
    λ pool g n.
    let row = node_at c.args.table.now pool c.args.row.0 in
    let is = sym c.kind.ensures ∙ c.if-kind-ne-DECLARATION.false in
    c.bad.ensures row is
    (c.name_kind-local.ensures pool row.local.bytes g (rw c.name.ensures n.local))
    (c.name_kind-value.ensures pool row.value.bytes g (rw c.name-2.ensures (declared-value row is n.value)))
