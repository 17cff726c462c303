-- `changes::write_declaration` meets its contract.
use Prim.Native.Nat.{◌*◌}
use native.Mathlib.Omega.{arith}
use Rattle.rules.specs.Table.{WIDTH}
use Rattle.changes.proofs.Writes.{count-part, counted, row_within, written_as}
use Rattle.changes.proofs.write_declaration.Goals as goal

pub slice_bounds-words-end-2 : goal.slice_bounds-words-end-2
slice_bounds-words-end-2 c = count-part _ _ (omega arith)

pub place-prefix-requires : goal.place-prefix-requires
place-prefix-requires c = (row_within c.args.table.now _ _ (omega arith) c.requires.row_lt_rows.0, omega arith)

pub place-uri-requires : goal.place-uri-requires
place-uri-requires c = (row_within c.args.table.now _ _ (omega arith) c.requires.row_lt_rows.0, omega arith)

pub maker-maker-requires : goal.maker-maker-requires
maker-maker-requires c = rw (counted c.args.table.now c.args.rows (omega arith)) (omega arith)

pub returns : goal.returns
returns c =
    record { table_after = written_as c.args.table.now (WIDTH * c.args.rows) c.args.owner.0 c.append_row.ensures c.maker-maker.ensures c.place-prefix.ensures c.place-uri.ensures; notes_after = c.note_declaration.ensures }
