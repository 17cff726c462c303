-- `pack_name` meets its contract.
use Prim.Native.Nat.{◌<◌}
use mathlib.Core.Path.{refl, sym, ap, ◌∙◌}
use native.Mathlib.Omega.{arith}
use lib.ListN.{length-set}
use Rattle.packed_rows.proofs.Packing.{has_room, empty_name, full-name, full_size, starts-kept, starts-new, empty-packs, marked-packs, past-packs1}
use Rattle.packed_pool.proofs.Marking.{held-marked}
use Rattle.packed_index.specs.Index.{mark_of}
use Rattle.numbers.specs.Numbers.{Names}
use Rattle.rules.specs.Table.{field_at}
use Rattle.packed_rows.proofs.pack_name.Goals as goal

pub returns-then-number-eq0 : goal.returns-then-number-eq0
returns-then-number-eq0 c =
    λ spelling last more names g st named.
    empty-packs names (empty_name g.spelled named (sym c.name-number.ensures ∙ c.if-number-eq0.true)) st

pub returns-then-known-gt0 : goal.returns-then-known-gt0
returns-then-known-gt0 c =
    λ spelling last more names g st named.
    let number : Names spelling last c.name-number.result.0 (field_at c.args.table.now c.args.pool.now c.args.row.0 c.args.field).bytes = rw c.name-number.ensures named in
    let mark = st.marks c.name-number.result.0 number.known c.if-known-gt0.true in
    marked-packs names (full-name g.spelled number (omega (arith, c.if-number-eq0.false))) c.if-known-gt0.true st (held-marked (omega arith) st.right c.if-known-gt0.true (mark ∙ ap (mark_of names) number.spelled)) refl refl
    (starts-kept spelling last names c.args.starts.now (field_at c.args.table.now c.args.pool.now c.args.row.0 c.args.field).bytes st.marks) c.set_offset.ensures

pub mark_name-mark-requires : goal.mark_name-mark-requires
mark_name-mark-requires c =
    let g = c.requires.by_index.3 in
    let st = c.requires.by_index.4 in
    let i = c.requires.has_field.1 in
    let within = i.within in
    let number : Names c.requires.by_index.0 c.requires.by_index.1 c.name-number.result.0 (field_at c.args.table.now c.args.pool.now c.args.row.0 c.args.field).bytes = rw c.name-number.ensures c.requires.by_index.5 in
    let full = full_size c.args.pool.now (field_at c.args.table.now c.args.pool.now c.args.row.0 c.args.field).offset (field_at c.args.table.now c.args.pool.now c.args.row.0 c.args.field).size (full-name g.spelled number (omega (arith, c.if-number-eq0.false))) in
    rw c.place-place.ensures record { tables = (g.hashes, st.right.chains, has_room st); within = ((within, g.small, full), g.limited) }

pub returns-then-mark-eq0 : goal.returns-then-mark-eq0
returns-then-mark-eq0 c =
    λ spelling last more names g st named.
    past-packs1 names c.if-mark-eq0.true (rw c.place-place.ensures at (c.mark_name-mark.ensures names st.right))

pub bounds-starts-number-2 : goal.bounds-starts-number-2
bounds-starts-number-2 c =
    let number : Names c.requires.by_index.0 c.requires.by_index.1 c.name-number.result.0 (field_at c.args.table.now c.args.pool.now c.args.row.0 c.args.field).bytes = rw c.name-number.ensures c.requires.by_index.5 in
    let known = number.known in
    omega arith

pub set_offset-requires-2 : goal.set_offset-requires-2
set_offset-requires-2 c =
    let g = c.requires.by_index.3 in
    let room = g.room in
    let field = c.requires.has_field.0.1 in
    (room, omega arith, omega (arith, c.if-mark-eq0.false))

pub returns : goal.returns
returns c =
    λ spelling last more names g st named.
    let number : Names spelling last c.name-number.result.0 (field_at c.args.table.now c.args.pool.now c.args.row.0 c.args.field).bytes = rw c.name-number.ensures named in
    let m = rw c.place-place.ensures at (c.mark_name-mark.ensures names st.right) in
    let some : 0 < c.mark_name-mark.result = omega (arith, c.if-mark-eq0.false) in
    marked-packs names (full-name g.spelled number (omega (arith, c.if-number-eq0.false))) some st m c.mark_name-mark.auto.index (length-set c.args.starts.now c.name-number.result.0 c.mark_name-mark.result)
    (starts-new spelling last names c.args.starts.now c.name-number.result.0 c.mark_name-mark.result (field_at c.args.table.now c.args.pool.now c.args.row.0 c.args.field).bytes number st.given (m.is some) st.marks) c.set_offset-2.ensures
