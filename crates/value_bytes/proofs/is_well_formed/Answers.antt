-- `is_well_formed` meets its contract.
use mathlib.Core.Path.{sym, ◌∙◌}
use native.Mathlib.Omega.{arith}
use lib.ListN.{length}
use Rattle.rules.specs.Table.{VALUE, word}
use Rattle.value_bytes.proofs.Values.{ascii-formed, place_inside, place-formed}
use Rattle.value_bytes.proofs.is_well_formed.Goals as goal

pub returns-then-ascii : goal.returns-then-ascii
returns-then-ascii c =
    let table = c.args.table.now in
    let r = c.args.row.0 in
    sym (ascii-formed c.args.pool.now (sym c.requires.judging.ascii ∙ c.if-ascii.true) (word table r VALUE) (word table r 9))

pub overflow_add-start : goal.overflow_add-start
overflow_add-start c =
    let w = place_inside c.args.table.now c.args.row.0 VALUE (length c.args.pool.now) c.place-place.ensures c.requires.row_in_bounds in
    let small = c.requires.judging.small in
    omega arith

pub well_formed_part-requires : goal.well_formed_part-requires
well_formed_part-requires c =
    let j = c.requires.judging in
    let w = place_inside c.args.table.now c.args.row.0 VALUE (length c.args.pool.now) c.place-place.ensures c.requires.row_in_bounds in record { marked = j.marked; in_bounds = (j.room, j.small); start_le_end = (omega arith, w) }

pub returns : goal.returns
returns c =
    place-formed c.args.table.now c.args.row.0 VALUE 0 c.place-place.ensures c.args.pool.now c.well_formed_part.ensures
