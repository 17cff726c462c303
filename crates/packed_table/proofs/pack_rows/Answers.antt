use Rattle.std.proofs.Common.{◌<◌, take, arith}
use Rattle.packed_table.proofs.Going.{few-rows, going_start, going_end, going-ready, going-room, going_next, going-past}
use Rattle.packed_rows.proofs.Packing.{failed, passed}
use Rattle.packing.specs.Packing.{entries}
use Rattle.rules.specs.Table.{nodes, row_count}
use Rattle.packed_table.proofs.pack_rows.Goals as goal

pub overflow_cast-r-end : goal.overflow_cast-r-end
overflow_cast-r-end c = let few = few-rows c.args.table.now c.args.pool.now c.requires.3.enough.accepted in omega arith

pub loop-r-init : goal.loop-r-init
loop-r-init c = (c.requires.0, c.requires.1, c.requires.2, going_start c.args.out.now c.requires.3)

pub pack_row-requires : goal.pack_row-requires
pack_row-requires c =
    let i = c.loop-r.invariant in let h : c.loop-r.r < row_count c.args.table.now = omega arith in (i.0, i.1, entries (take c.loop-r.r (nodes c.args.table.now c.args.pool.now)), going-ready i.3 h, going-room i.3 h)

pub returns-then-not-pack_row : goal.returns-then-not-pack_row
returns-then-not-pack_row c =
    let i = c.loop-r.invariant in let h : c.loop-r.r < row_count c.args.table.now = omega arith in going-past i.3 h (failed c.if-not-pack_row.true-raw (c.pack_row.ensures i.0 i.1 0 (entries (take c.loop-r.r (nodes c.args.table.now c.args.pool.now))) (going-ready i.3 h) (going-room i.3 h)))

pub loop-r-preserved : goal.loop-r-preserved
loop-r-preserved c =
    let i = c.loop-r.invariant in
    let h : c.loop-r.r < row_count c.args.table.now = omega arith in (
      i.0,
      i.1,
      i.2,
      going_next i.3 h (λ more st. passed c.if-not-pack_row.false-raw (c.pack_row.ensures i.0 i.1 more (entries (take c.loop-r.r (nodes c.args.table.now c.args.pool.now))) (going-ready i.3 h) st)),
    )

pub returns : goal.returns
returns c = going_end c.loop-r.invariant.3 (omega arith)
