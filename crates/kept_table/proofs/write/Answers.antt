use Rattle.std.proofs.Common.{◌<◌, refl, arith}
use Rattle.rules.specs.Table.{row_count}
use Rattle.kept_table.proofs.Going.{going_start, going-room, going_next, going_end, going-few}
use Rattle.kept_table.proofs.write.Goals as goal

pub loop-r-init : goal.loop-r-init
loop-r-init c = going_start c.args.table.now c.args.fates.now c.args.out.now _ refl

pub write_row-kept-requires-clause-row_bound : goal.write_row-kept-requires-clause-row_bound
write_row-kept-requires-clause-row_bound c =
    let inside : c.loop-r.r < row_count c.args.table.now = omega arith in
    let few = going-few c.requires.sorted c.requires.table_in_bounds c.loop-r.invariant inside in
    (inside, omega arith, few.0, omega arith)

pub write_row-kept-requires-clause-kept_in_bounds : goal.write_row-kept-requires-clause-kept_in_bounds
write_row-kept-requires-clause-kept_in_bounds c =
    λ kept. going-room c.requires.sorted c.requires.table_in_bounds c.loop-r.invariant (omega arith) kept _ refl

pub loop-r-preserved : goal.loop-r-preserved
loop-r-preserved c =
    let inside : c.loop-r.r < row_count c.args.table.now = omega arith in
    going_next c.requires.sorted c.requires.table_in_bounds c.loop-r.invariant inside c.write_row-kept.ensures.result_value c.write_row-kept.ensures.out_after c.write_row-kept.auto.out

pub returns : goal.returns
returns c = going_end c.loop-r.invariant (omega arith)
