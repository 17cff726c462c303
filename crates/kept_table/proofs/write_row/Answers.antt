-- `kept_table::write_row` meets its contract.
use Prim.Native.Nat.{◌*◌}
use mathlib.Core.Path.{ap, ◌∙◌}
use native.Mathlib.Omega.{arith}
use lib.ListN.{get_or}
use Rattle.rules.specs.Table.{WIDTH, PARENT, word}
use Rattle.buffers.specs.Writes.{written}
use Rattle.kept_table.specs.Kept.{renumbered}
use Rattle.kept_table.proofs.Rows.{words-read, fate-zero, where-kept, where-dropped}
use Rattle.kept_table.proofs.write_row.Goals as goal

pub returns-then-is_dropped : goal.returns-then-is_dropped
returns-then-is_dropped c =
    let fate = get_or c.args.fates.now c.args.row.0 0 in record { result_value = where-dropped fate c.is_dropped.ensures c.if-is_dropped.true _ _; out_after = where-dropped fate c.is_dropped.ensures c.if-is_dropped.true _ _ }

pub new_parent-parent-requires : goal.new_parent-parent-requires
new_parent-parent-requires c = rw c.parent.ensures c.requires.fact

pub kind-requires : goal.kind-requires
kind-requires c = c.requires.row_bound.0

pub maker-requires : goal.maker-requires
maker-requires c = c.requires.row_bound.0

pub write_rows-requires : goal.write_rows-requires
write_rows-requires c =
    c.requires.kept_in_bounds (fate-zero (get_or c.args.fates.now c.args.row.0 0) c.is_dropped.ensures c.if-is_dropped.false)

pub overflow_add-result : goal.overflow_add-result
overflow_add-result c = omega (arith, c.requires.row_bound)

pub returns : goal.returns
returns c =
    let t = c.args.table.now in
    let r = c.args.row.0 in
    let fate = get_or c.args.fates.now r 0 in
    let left = c.if-is_dropped.false in
    let moved = renumbered c.args.numbers.now (word t r PARENT) in
    let parent = c.new_parent-parent.ensures ∙ ap (renumbered c.args.numbers.now) c.parent.ensures in
    let words = words-read t r {moved = moved} c.kind.ensures parent c.place-prefix.ensures c.place-local.ensures c.place-uri.ensures c.place-value.ensures c.maker.ensures in record { result_value = where-kept fate c.is_dropped.ensures left _ _; out_after = c.write_rows.ensures ∙ ap (written c.args.out.now (WIDTH * c.args.kept.0)) words ∙ where-kept fate c.is_dropped.ensures left _ _ }
