use native.Mathlib.Omega.{arith}
use Rattle.rules.specs.Table.{row_count}
use Rattle.tags.proofs.Owned.{left-start, left-row, left_end, left-later, left-next, left-falls}
use Rattle.tags.proofs.put_owned.Goals as goal

pub first-position-requires : goal.first-position-requires
first-position-requires c =
    let room = c.requires.linked.room in
    let row = c.requires.row_bound in
    omega arith

pub loop-position-init : goal.loop-position-init
loop-position-init c =
    (c.requires.linked, c.requires.row_bound, left-start c.args.table.now c.args.pool.now c.args.links.now c.args.row.0 c.requires.linked c.requires.row_bound c.args.out.now c.args.at c.first-position.result.0 c.first-position.ensures)

pub row_at-owned-requires : goal.row_at-owned-requires
row_at-owned-requires c = omega (arith, c.loop-position-test.true)

pub put_attribute-to-requires : goal.put_attribute-to-requires
put_attribute-to-requires c =
    record { row_bound = omega (arith, c.row_at-owned.ensures, c.loop-position-test.true, left-row c.args.table.now c.args.pool.now c.args.links.now c.args.row.0 c.loop-position.invariant.0 c.loop-position.invariant.1 c.args.out.now c.args.at c.loop-position.invariant.2); marked = c.requires.marked; pooled = c.requires.pooled }

pub next-position-requires : goal.next-position-requires
next-position-requires c =
    omega (arith, c.row_at-owned.ensures, c.loop-position-test.true, left-row c.args.table.now c.args.pool.now c.args.links.now c.args.row.0 c.loop-position.invariant.0 c.loop-position.invariant.1 c.args.out.now c.args.at c.loop-position.invariant.2, c.loop-position.invariant.0.room)

pub loop-position-smaller : goal.loop-position-smaller
loop-position-smaller c =
    let taken = c.loop-position-test.true in
    left-falls (row_count c.args.table.now) c.loop-position.position c.next-position.result.0 taken (left-row c.args.table.now c.args.pool.now c.args.links.now c.args.row.0 c.loop-position.invariant.0 c.loop-position.invariant.1 c.args.out.now c.args.at c.loop-position.invariant.2) (left-later c.args.table.now c.args.pool.now c.args.links.now c.args.row.0 c.loop-position.invariant.0 c.loop-position.invariant.1 c.args.out.now c.args.at c.loop-position.invariant.2 taken c.row_at-owned.ensures c.next-position.result.0 c.next-position.ensures)

pub loop-position-preserved : goal.loop-position-preserved
loop-position-preserved c =
    let taken = c.loop-position-test.true in
    (c.loop-position.invariant.0, c.loop-position.invariant.1, left-next c.args.table.now c.args.pool.now c.args.links.now c.args.row.0 c.loop-position.invariant.0 c.loop-position.invariant.1 c.args.out.now c.args.at c.loop-position.invariant.2 taken c.row_at-owned.ensures c.next-position.result.0 c.next-position.ensures c.put_attribute-to.ensures)

pub shape_of-out : goal.shape_of-out
shape_of-out c = c.loop-position.invariant.2.size

pub returns : goal.returns
returns c =
    left_end c.args.table.now c.args.pool.now c.args.links.now c.args.row.0 c.loop-position.invariant.0 c.loop-position.invariant.1 c.args.out.now c.args.at c.loop-position.invariant.2 (omega arith)
