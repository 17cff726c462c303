-- `markup_values::put_text` meets its contract.
use mathlib.Core.Bool.{false}
use native.Mathlib.Omega.{arith}
use Rattle.rules.specs.Table.{node_at}
use Rattle.markup_values.proofs.Values.{value_read, plain_value, value-known}
use Rattle.markup_values.proofs.put_text.Goals as goal

pub field_within-value-requires : goal.field_within-value-requires
field_within-value-requires c =
    record { has_field = (c.requires.row_bound, omega arith); in_pool = c.requires.pooled.value c.args.row.0 c.requires.row_bound }

pub returns-then-is_plain : goal.returns-then-is_plain
returns-then-is_plain c =
    plain_value c.args.table.now c.args.pool.now c.args.row.0 c.requires.marked c.field_within-value.ensures false c.is_plain.ensures c.if-is_plain.true c.put_bytes.ensures

pub write_value-requires : goal.write_value-requires
write_value-requires c =
    value-known c.args.table.now c.args.pool.now c.args.row.0 c.requires.marked c.field_within-value.ensures c.value_runs.ensures

pub returns : goal.returns
returns c =
    value_read false (node_at c.args.table.now c.args.pool.now c.args.row.0) c.field_within-value.ensures c.write_value.ensures
