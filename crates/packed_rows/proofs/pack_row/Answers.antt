-- `pack_row` meets its contract.
use Prim.Native.Nat.{◌+◌}
use mathlib.Core.Path.{refl}
use mathlib.Core.List.{[], ◌∷◌}
use native.Mathlib.Omega.{arith}
use Rattle.packed_rows.proofs.Packing.{fewer, ready-kept, then-packs, past-packs, failed, passed}
use Rattle.packed_rows.specs.Rows.{field_of, name_fields, uses_of}
use Rattle.packing.specs.Packing.{entered_all}
use Rattle.rules.specs.Table.{VALUE}
use Rattle.packed_rows.proofs.pack_row.Goals as goal

pub pack_names-requires : goal.pack_names-requires
pack_names-requires c = (c.requires.0, c.requires.1, c.requires.2, c.requires.3, fewer 3 (omega arith) c.requires.4)

pub returns-then-not-pack_names : goal.returns-then-not-pack_names
returns-then-not-pack_names c =
    λ spelling last more names g st.
    past-packs names (name_fields c.args.table.now c.args.pool.now c.args.row.0) (field_of c.args.table.now c.args.pool.now c.args.row.0 VALUE ∷ []) (failed c.if-not-pack_names.true-raw (c.pack_names.ensures spelling last (more + 1) names g (fewer (more + 1 + 3) (omega arith) st)))

pub pack_value-requires : goal.pack_value-requires
pack_value-requires c =
    let one = c.pack_names.ensures c.requires.0 c.requires.1 1 c.requires.2 c.requires.3 c.requires.4 in
    (c.requires.0, c.requires.1, entered_all c.requires.2 (uses_of (name_fields c.args.table.now c.args.pool.now c.args.row.0)), ready-kept c.pack_names.auto.out_table c.requires.3, one.state (c.if-not-pack_names.false))

pub returns : goal.returns
returns c =
    λ spelling last more names g st.
    let one = passed c.if-not-pack_names.false-raw (c.pack_names.ensures spelling last (more + 1) names g (fewer (more + 1 + 3) (omega arith) st)) in
    then-packs names (name_fields c.args.table.now c.args.pool.now c.args.row.0) (field_of c.args.table.now c.args.pool.now c.args.row.0 VALUE ∷ []) one
    (c.pack_value.ensures spelling last more (entered_all names (uses_of (name_fields c.args.table.now c.args.pool.now c.args.row.0))) (ready-kept c.pack_names.auto.out_table g) (one.state refl))
