-- `pack_names` meets its contract.
use Prim.Native.Nat.{◌+◌}
use mathlib.Core.List.{[], ◌∷◌}
use native.Mathlib.Omega.{arith}
use mathlib.Core.Path.{refl, ◌∙◌}
use Rattle.packed_rows.proofs.Packing.{fewer, ready-kept, no_names, then-packs, past-packs, failed, passed}
use Rattle.packed_rows.specs.Rows.{field_of, uses_of}
use Rattle.packing.specs.Packing.{entered_all}
use Rattle.numbering.proofs.Numbering.{inside-prefix, inside-local, inside-uri}
use Rattle.rules.specs.Table.{PREFIX, LOCAL_NAME, URI}
use Rattle.packed_rows.proofs.pack_names.Goals as goal

pub returns-then-has_no_names : goal.returns-then-has_no_names
returns-then-has_no_names c = λ spelling last more names g st. no_names names c.has_no_names.ensures c.if-has_no_names.true g st

pub pack_name-requires : goal.pack_name-requires
pack_name-requires c =
    record { by_index = (c.requires.0, c.requires.1, c.requires.2, c.requires.3, fewer 1 (omega arith) c.requires.4, c.requires.3.numbered.prefix); has_field = ((c.requires.3.row, omega arith), inside-prefix c.args.table.now c.args.pool.now c.args.row.0 c.requires.3.small c.requires.3.fields, omega arith) }

pub returns-then-not-pack_name : goal.returns-then-not-pack_name
returns-then-not-pack_name c =
    λ spelling last more names g st.
    past-packs names (field_of c.args.table.now c.args.pool.now c.args.row.0 PREFIX ∷ []) (field_of c.args.table.now c.args.pool.now c.args.row.0 LOCAL_NAME ∷ field_of c.args.table.now c.args.pool.now c.args.row.0 URI ∷ [])
    (failed c.if-not-pack_name.true-raw (c.pack_name.ensures spelling last (more + 2) names g (fewer (more + 2 + 1) (omega arith) st) g.numbered.prefix))

pub pack_name-requires-2 : goal.pack_name-requires-2
pack_name-requires-2 c =
    let one = c.pack_name.ensures c.requires.0 c.requires.1 2 c.requires.2 c.requires.3 c.requires.4 c.requires.3.numbered.prefix in record { by_index = (c.requires.0, c.requires.1, entered_all c.requires.2 (uses_of (field_of c.args.table.now c.args.pool.now c.args.row.0 PREFIX ∷ [])), ready-kept c.pack_name.auto.out_table c.requires.3, fewer 1 (omega arith) (one.state (c.if-not-pack_name.false)), c.requires.3.numbered.local); has_field = ((c.requires.3.row, omega arith), inside-local c.args.table.now c.args.pool.now c.args.row.0 c.requires.3.small c.requires.3.fields, omega arith) }

pub returns-then-not-pack_name-2 : goal.returns-then-not-pack_name-2
returns-then-not-pack_name-2 c =
    λ spelling last more names g st.
    let one = passed c.if-not-pack_name.false-raw (c.pack_name.ensures spelling last (more + 2) names g (fewer (more + 2 + 1) (omega arith) st) g.numbered.prefix) in
    let held = entered_all names (uses_of (field_of c.args.table.now c.args.pool.now c.args.row.0 PREFIX ∷ [])) in
    let two = failed c.if-not-pack_name-2.true-raw (c.pack_name-2.ensures spelling last (more + 1) held (ready-kept c.pack_name.auto.out_table g) (fewer (more + 1 + 1) (omega arith) (one.state refl)) g.numbered.local) in
    then-packs names (field_of c.args.table.now c.args.pool.now c.args.row.0 PREFIX ∷ []) (field_of c.args.table.now c.args.pool.now c.args.row.0 LOCAL_NAME ∷ field_of c.args.table.now c.args.pool.now c.args.row.0 URI ∷ []) one (past-packs held (field_of c.args.table.now c.args.pool.now c.args.row.0 LOCAL_NAME ∷ []) (field_of c.args.table.now c.args.pool.now c.args.row.0 URI ∷ []) two)

pub pack_name-requires-3 : goal.pack_name-requires-3
pack_name-requires-3 c =
    let one = c.pack_name.ensures c.requires.0 c.requires.1 2 c.requires.2 c.requires.3 c.requires.4 c.requires.3.numbered.prefix in
    let held = entered_all c.requires.2 (uses_of (field_of c.args.table.now c.args.pool.now c.args.row.0 PREFIX ∷ [])) in
    let g₁ = ready-kept c.pack_name.auto.out_table c.requires.3 in
    let two = c.pack_name-2.ensures c.requires.0 c.requires.1 1 held g₁ (one.state (c.if-not-pack_name.false)) c.requires.3.numbered.local in record { by_index = (c.requires.0, c.requires.1, entered_all held (uses_of (field_of c.args.table.now c.args.pool.now c.args.row.0 LOCAL_NAME ∷ [])), ready-kept c.pack_name-2.auto.out_table g₁, two.state (c.if-not-pack_name-2.false), c.requires.3.numbered.uri); has_field = ((c.requires.3.row, omega arith), inside-uri c.args.table.now c.args.pool.now c.args.row.0 c.requires.3.small c.requires.3.fields, omega arith) }

pub shape_of-index : goal.shape_of-index
shape_of-index c = c.pack_name-3.auto.index ∙ c.pack_name-2.auto.index ∙ c.pack_name.auto.index

pub shape_of-starts : goal.shape_of-starts
shape_of-starts c = c.pack_name-3.auto.starts ∙ c.pack_name-2.auto.starts ∙ c.pack_name.auto.starts

pub returns : goal.returns
returns c =
    λ spelling last more names g st.
    let one = passed c.if-not-pack_name.false-raw (c.pack_name.ensures spelling last (more + 2) names g (fewer (more + 2 + 1) (omega arith) st) g.numbered.prefix) in
    let held = entered_all names (uses_of (field_of c.args.table.now c.args.pool.now c.args.row.0 PREFIX ∷ [])) in
    let g₁ = ready-kept c.pack_name.auto.out_table g in
    let two = passed c.if-not-pack_name-2.false-raw (c.pack_name-2.ensures spelling last (more + 1) held g₁ (fewer (more + 1 + 1) (omega arith) (one.state refl)) g.numbered.local) in
    let g₂ = ready-kept c.pack_name-2.auto.out_table g₁ in
    let three = c.pack_name-3.ensures spelling last more (entered_all held (uses_of (field_of c.args.table.now c.args.pool.now c.args.row.0 LOCAL_NAME ∷ []))) g₂ (two.state refl) g.numbered.uri in
    then-packs names (field_of c.args.table.now c.args.pool.now c.args.row.0 PREFIX ∷ []) (field_of c.args.table.now c.args.pool.now c.args.row.0 LOCAL_NAME ∷ field_of c.args.table.now c.args.pool.now c.args.row.0 URI ∷ []) one (then-packs held (field_of c.args.table.now c.args.pool.now c.args.row.0 LOCAL_NAME ∷ []) (field_of c.args.table.now c.args.pool.now c.args.row.0 URI ∷ []) two three)
