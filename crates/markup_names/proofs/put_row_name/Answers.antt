-- `markup_names::put_row_name` meets its contract.
use native.Mathlib.Omega.{arith}
use Rattle.rules.specs.Table.{node_at}
use Rattle.markup_names.proofs.Names.{name-read}
use Rattle.markup_names.proofs.put_row_name.Goals as goal

pub field_within-prefix-requires : goal.field_within-prefix-requires
field_within-prefix-requires c =
    record { has_field = (c.requires.row_bound, omega arith); in_pool = c.requires.pooled.prefix c.args.row.0 c.requires.row_bound }

pub field_within-local-requires : goal.field_within-local-requires
field_within-local-requires c =
    record { has_field = (c.requires.row_bound, omega arith); in_pool = c.requires.pooled.local c.args.row.0 c.requires.row_bound }

pub returns : goal.returns
returns c =
    let n = node_at c.args.table.now c.args.pool.now c.args.row.0 in
    name-read n c.field_within-prefix.ensures c.field_within-local.ensures c.put_name.ensures
