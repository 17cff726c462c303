use Prim.Native.Nat.{◌+◌, ◌*◌}
use mathlib.Core.Path.{refl, ◌∙◌}
use native.Mathlib.Omega.{arith}
use Rattle.notes.specs.Notes.{note_at}
use Rattle.element_steps.proofs.Walk.{both_hold, Begun, row-element-asks, row-noted, begins, stands-first, stands-end, walk-attribute, walk-room, walk-noted, stands-next, walk-falls}
use Rattle.element_steps.proofs.normalize_element.Goals as goal

pub repair_element-rows-requires : goal.repair_element-rows-requires
repair_element-rows-requires c = (_, _, _, row-element-asks c.requires.1)

pub link-position-requires : goal.link-position-requires
link-position-requires c = row-noted c.requires.1 c.repair_element-rows.new.notes c.repair_element-rows.auto.notes

pub loop-position-init : goal.loop-position-init
unfolding note_at
loop-position-init c =
    record {
      stands = λ total s b. stands-first b (omega (arith, c.slice_known-7-1.given (8 * c.args.element.0 + 6), c.link-position.ensures)) c.link-position.ensures;
      small = omega (arith, c.slice_known-7-1.given (8 * c.args.element.0 + 6), c.link-position.ensures);
      table_length = refl;
      pool_length = refl;
      notes_length = refl;
      tops_length = refl;
      path_length = refl;
    }

pub row_at-row-requires : goal.row_at-row-requires
row_at-row-requires c = (both_hold 0 c.loop-position.position c.loop-position.rows c.args.sizes.limit c.loop-position-test.true).0

pub repair_attribute-made-requires : goal.repair_attribute-made-requires
repair_attribute-made-requires c =
    let fact : Begun c.requires.0 c.repair_element-rows.new.table c.args.pool.now c.repair_element-rows.new.notes c.repair_element-rows.new.tops c.repair_element-rows.new.path c.repair_element-rows.result c.args.sizes.bytes c.args.sizes.names c.args.sizes.limit c.args.element.0 c.requires.1.state = begins c.requires.1 c.repair_element-rows.auto.notes (c.repair_element-rows.ensures _ _ _ (row-element-asks c.requires.1)) in
    let test = both_hold _ _ _ _ c.loop-position-test.true in
    let standing = c.loop-position.invariant.stands _ _ fact in record { at_attribute = walk-attribute fact standing test.0 test.1 c.row_at-row.ensures; bytes_in_bounds = walk-room fact standing test.0 test.1 c.row_at-row.ensures c.loop-position.invariant.pool_length }

pub link-position-requires-in-loop-position : goal.link-position-requires-in-loop-position
link-position-requires-in-loop-position c =
    let fact : Begun c.requires.0 c.repair_element-rows.new.table c.args.pool.now c.repair_element-rows.new.notes c.repair_element-rows.new.tops c.repair_element-rows.new.path c.repair_element-rows.result c.args.sizes.bytes c.args.sizes.names c.args.sizes.limit c.args.element.0 c.requires.1.state = begins c.requires.1 c.repair_element-rows.auto.notes (c.repair_element-rows.ensures _ _ _ (row-element-asks c.requires.1)) in
    let test = both_hold _ _ _ _ c.loop-position-test.true in
    let standing = c.loop-position.invariant.stands _ _ fact in
    walk-noted fact standing test.0 test.1 c.row_at-row.ensures c.repair_attribute-made.new.notes (c.repair_attribute-made.auto.notes ∙ c.loop-position.invariant.notes_length)

pub loop-position-smaller : goal.loop-position-smaller
unfolding note_at
loop-position-smaller c =
    let fact : Begun c.requires.0 c.repair_element-rows.new.table c.args.pool.now c.repair_element-rows.new.notes c.repair_element-rows.new.tops c.repair_element-rows.new.path c.repair_element-rows.result c.args.sizes.bytes c.args.sizes.names c.args.sizes.limit c.args.element.0 c.requires.1.state = begins c.requires.1 c.repair_element-rows.auto.notes (c.repair_element-rows.ensures _ _ _ (row-element-asks c.requires.1)) in
    let test = both_hold _ _ _ _ c.loop-position-test.true in
    let standing = c.loop-position.invariant.stands _ _ fact in
    let asked = walk-attribute fact standing test.0 test.1 c.row_at-row.ensures in
    walk-falls fact standing test.0 test.1 c.row_at-row.ensures c.loop-position.invariant.small c.repair_attribute-made.new.notes (c.repair_attribute-made.ensures asked).after.attributes
    (omega (arith, c.slice_known-in-loop-position-3-1.given (8 * c.row_at-row.result.0 + 7), c.link-position-in-loop-position.ensures)) c.link-position-in-loop-position.ensures

pub loop-position-preserved : goal.loop-position-preserved
unfolding note_at
loop-position-preserved c =
    let h = c.loop-position.invariant in
    let test = both_hold _ _ _ _ c.loop-position-test.true in
    record {
      stands = λ total s b. stands-next b (h.stands total s b) test.0 test.1 c.row_at-row.ensures c.repair_attribute-made.ensures (omega (arith, c.slice_known-in-loop-position-3-1.given (8 * c.row_at-row.result.0 + 7), c.link-position-in-loop-position.ensures)) c.link-position-in-loop-position.ensures;
      small = omega (arith, c.slice_known-in-loop-position-3-1.given (8 * c.row_at-row.result.0 + 7), c.link-position-in-loop-position.ensures);
      table_length = c.repair_attribute-made.auto.table ∙ h.table_length;
      pool_length = c.repair_attribute-made.auto.pool ∙ h.pool_length;
      notes_length = c.repair_attribute-made.auto.notes ∙ h.notes_length;
      tops_length = c.repair_attribute-made.auto.tops ∙ h.tops_length;
      path_length = c.repair_attribute-made.auto.path ∙ h.path_length;
    }

pub shape_of-table : goal.shape_of-table
shape_of-table c = c.loop-position.invariant.table_length ∙ c.repair_element-rows.auto.table

pub shape_of-pool : goal.shape_of-pool
shape_of-pool c = c.loop-position.invariant.pool_length

pub shape_of-notes : goal.shape_of-notes
shape_of-notes c = c.loop-position.invariant.notes_length ∙ c.repair_element-rows.auto.notes

pub shape_of-tops : goal.shape_of-tops
shape_of-tops c = c.loop-position.invariant.tops_length ∙ c.repair_element-rows.auto.tops

pub shape_of-path : goal.shape_of-path
shape_of-path c = c.loop-position.invariant.path_length ∙ c.repair_element-rows.auto.path

pub returns : goal.returns
returns c =
    λ total h.
    let after = c.repair_element-rows.ensures _ _ _ (row-element-asks h) in
    let b = begins h c.repair_element-rows.auto.notes after in
    let done = stands-end b (c.loop-position.invariant.stands _ _ b) c.loop-position-test.false in
    record { full = done.full; good = done.good; spare = done.spare; attributes = λ r k late inside. done.attributes r k late inside ∙ after.attributes r k late inside }
