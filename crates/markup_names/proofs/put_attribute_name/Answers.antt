-- `markup_names::put_attribute_name` meets its contract.
use mathlib.Core.Path.{sym, ◌∙◌}
use native.Mathlib.Omega.{arith}
use Rattle.rules.specs.Table.{node_at}
use Rattle.markup_names.proofs.Names.{prefix-read, declaration-put, own-name-put}
use Rattle.markup_names.proofs.put_attribute_name.Goals as goal

pub field_within-prefix-requires : goal.field_within-prefix-requires
field_within-prefix-requires c =
    record { has_field = (c.requires.row_bound, omega arith); in_pool = c.requires.pooled.local c.args.row.0 c.requires.row_bound }

pub returns-then-kind-eq-DECLARATION : goal.returns-then-kind-eq-DECLARATION
returns-then-kind-eq-DECLARATION c =
    let n = node_at c.args.table.now c.args.pool.now c.args.row.0 in
    declaration-put n (sym c.kind.ensures ∙ c.if-kind-eq-DECLARATION.true) (prefix-read n c.field_within-prefix.ensures c.put_declaration_name.ensures)

pub returns : goal.returns
returns c =
    let n = node_at c.args.table.now c.args.pool.now c.args.row.0 in
    own-name-put n (λ e. c.if-kind-eq-DECLARATION.false (c.kind.ensures ∙ e)) c.put_row_name.ensures
