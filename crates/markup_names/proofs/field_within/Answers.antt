-- `markup_names::field_within` meets its contract.
use Prim.Native.Nat.{◌+◌, ◌-◌}
use mathlib.Core.Path.{◌∙◌}
use native.Mathlib.Omega.{arith}
use Rattle.rows.proofs.Words.{field-part}
use Rattle.markup_names.proofs.Names.{place-offset, place-length}
use Rattle.markup_names.proofs.field_within.Goals as goal

pub slice_bounds-result-end : goal.slice_bounds-result-end
slice_bounds-result-end c =
    let offset = c.wide-start.ensures ∙ place-offset c.args.table.now c.args.row.0 c.args.field c.place-place.ensures in
    let length = c.wide.ensures ∙ place-length c.args.table.now c.args.row.0 c.args.field c.place-place.ensures in
    omega (arith, offset, length, c.requires.in_pool)

pub returns : goal.returns
returns c =
    let offset = c.wide-start.ensures ∙ place-offset c.args.table.now c.args.row.0 c.args.field c.place-place.ensures in
    let length = c.wide.ensures ∙ place-length c.args.table.now c.args.row.0 c.args.field c.place-place.ensures in
    field-part c.args.table.now c.args.pool.now c.args.row.0 c.args.field c.wide-start.result (c.wide-start.result + c.wide.result - c.wide-start.result) offset (omega (arith, length))
