-- `pack_value` meets its contract.
use Prim.Native.Nat.{◌<◌}
use mathlib.Core.Path.{refl, sym, ap, ◌∙◌}
use native.Mathlib.Omega.{arith}
use Rattle.packed_rows.proofs.Packing.{has_room, no_bytes, some_bytes, value-noted, starts-kept, empty-packs, marked-packs, past-packs1}
use Rattle.numbering.proofs.Numbering.{inside-value}
use Rattle.rules.specs.declared.Place.{Place}
use Rattle.rules.specs.Table.{VALUE, field_at}
use Rattle.packed_rows.proofs.pack_value.Goals as goal

pub returns-then-place-eq0 : goal.returns-then-place-eq0
returns-then-place-eq0 c =
    λ spelling last more names g st.
    empty-packs names (no_bytes c.args.pool.now (field_at c.args.table.now c.args.pool.now c.args.row.0 VALUE).offset (sym (ap (λ (q : Place). q.length) c.place-place.ensures) ∙ c.if-place-eq0.true)) st

pub pack_name-requires : goal.pack_name-requires
pack_name-requires c =
    record { by_index = (c.requires.0, c.requires.1, c.requires.2, c.requires.3, c.requires.4, value-noted c.requires.3 (sym c.kind.ensures ∙ c.if-kind-eq-DECLARATION.true)); has_field = ((c.requires.3.row, omega arith), inside-value c.args.table.now c.args.pool.now c.args.row.0 c.requires.3.small c.requires.3.fields, omega arith) }

pub returns-then-kind-eq-DECLARATION : goal.returns-then-kind-eq-DECLARATION
returns-then-kind-eq-DECLARATION c =
    λ spelling last more names g st. c.pack_name.ensures spelling last more names g st (value-noted g (sym c.kind.ensures ∙ c.if-kind-eq-DECLARATION.true))

pub mark_value-mark-requires : goal.mark_value-mark-requires
mark_value-mark-requires c =
    let within = (inside-value c.args.table.now c.args.pool.now c.args.row.0 c.requires.3.small c.requires.3.fields).within in
    let size = ap (λ (q : Place). q.length) c.place-place.ensures in
    let some : 0 < (field_at c.args.table.now c.args.pool.now c.args.row.0 VALUE).size = omega (arith, c.if-place-eq0.false) in
    rw c.place-place.ensures record { tables = (c.requires.3.hashes, c.requires.4.right.chains, has_room c.requires.4); within = ((within, c.requires.3.small, some), c.requires.3.limited) }

pub returns-then-mark-eq0 : goal.returns-then-mark-eq0
returns-then-mark-eq0 c =
    λ spelling last more names g st. past-packs1 names c.if-mark-eq0.true (rw c.place-place.ensures at (c.mark_value-mark.ensures names st.right))

pub returns : goal.returns
returns c =
    λ spelling last more names g st.
    let m = rw c.place-place.ensures at (c.mark_value-mark.ensures names st.right) in
    let size = ap (λ (q : Place). q.length) c.place-place.ensures in
    let full = some_bytes c.args.pool.now (field_at c.args.table.now c.args.pool.now c.args.row.0 VALUE).offset (field_at c.args.table.now c.args.pool.now c.args.row.0 VALUE).size (inside-value c.args.table.now c.args.pool.now c.args.row.0 g.small g.fields).within (omega (arith, c.if-place-eq0.false)) in
    marked-packs names full (omega (arith, c.if-mark-eq0.false)) st m c.mark_value-mark.auto.index refl (starts-kept spelling last names c.args.starts.now (field_at c.args.table.now c.args.pool.now c.args.row.0 VALUE).bytes st.marks) c.set_offset.ensures
