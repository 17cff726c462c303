-- `changes::take_prefix` meets its contract.
use mathlib.Core.Path.{◌∙◌, ap}
use native.Mathlib.Omega.{arith}
use Rattle.buffers.specs.Writes.{placed}
use Rattle.notes.specs.Notes.{noted}
use Rattle.changes.proofs.Writes.{count-part, row_within}
use Rattle.changes.proofs.take_prefix.Goals as goal

pub slice_bounds-place-end-2 : goal.slice_bounds-place-end-2
slice_bounds-place-end-2 c = count-part _ _ c.requires.rows_in_bounds.0

pub place-prefix-requires : goal.place-prefix-requires
place-prefix-requires c = (row_within c.args.table.now _ _ c.requires.rows_in_bounds.0 c.requires.attribute_lt_rows.1, omega arith)

pub returns : goal.returns
returns c =
    record { table_after = c.set_place.ensures ∙ ap (placed c.args.table.now _ _) c.place-prefix.ensures; notes_after = c.set_name.ensures ∙ ap (noted c.args.notes.now _ _) c.name-number.ensures }
