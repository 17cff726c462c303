use Prim.Native.Nat.{suc, ◌+◌, ◌-◌, ◌<◌}
use mathlib.Core.Path.{◌≡◌, sym, ◌∙◌}
use native.Mathlib.Omega.{arith}
use Rattle.content.proofs.Rest.{left-none, ready-start, ready-deep, ready-next, ready-length, inside-start, rest-less, through, inside-end, inside-out, out-less, inside-row, inside-in, in-same, inside-over, over-less}
use Rattle.content.proofs.put_element.Goals as goal

pub loop-out-init : goal.loop-out-init
loop-out-init c =
    (c.requires.linked, ready-start c.args.table.now c.args.pool.now c.args.links.now c.requires.linked c.args.row.0 c.requires.row_bound c.args.out.now c.args.at)

pub put_start_tag-to-requires : goal.put_start_tag-to-requires
put_start_tag-to-requires c =
    record { linked = c.loop-out.invariant.0; row_bound = c.loop-out.invariant.1.row; marked = c.requires.marked; pooled = c.requires.pooled }

pub overflow_add-depth : goal.overflow_add-depth
overflow_add-depth c =
    omega (arith, ready-deep c.args.table.now c.args.pool.now c.args.links.now c.loop-out.invariant.0 c.loop-out.invariant.1, c.loop-out.invariant.1.row, c.loop-out.invariant.0.few)

pub first-position-requires : goal.first-position-requires
first-position-requires c = omega (arith, c.loop-out.invariant.0.room, c.loop-out.invariant.1.row)

pub loop-position-init : goal.loop-position-init
loop-position-init c =
    (c.loop-out.invariant.0, omega arith, inside-start c.args.table.now c.args.pool.now c.args.links.now c.loop-out.invariant.0 c.loop-out.invariant.1 c.first-position.result.0 c.first-position.ensures (c.loop-out.depth + 1 - 1) (omega arith) _ _, omega arith)

pub put_end_tag-to-requires : goal.put_end_tag-to-requires
put_end_tag-to-requires c = record { row_bound = c.loop-position.invariant.2.row; pooled = c.requires.pooled }

pub overflow_sub-depth : goal.overflow_sub-depth
overflow_sub-depth c = c.loop-position.invariant.1

pub shape_of-out-then-depth-eq0 : goal.shape_of-out-then-depth-eq0
shape_of-out-then-depth-eq0 c =
    c.put_end_tag-to.ensures.size ∙ c.loop-position.invariant.2.left.size ∙ c.put_start_tag-to.ensures.size ∙ c.loop-out.invariant.1.left.size

pub returns-then-depth-eq0 : goal.returns-then-depth-eq0
returns-then-depth-eq0 c =
    left-none (through c.args.table.now c.args.pool.now c.args.links.now c.loop-out.invariant.0 c.loop-out.invariant.1 c.first-position.result.0 c.first-position.ensures (c.loop-out.depth + 1 - 1) (omega arith) c.put_start_tag-to.ensures (inside-end c.args.table.now c.args.pool.now c.args.links.now c.loop-position.invariant.0 c.loop-position.invariant.2 c.if-position-eq0.true c.if-depth-eq0.true c.put_end_tag-to.ensures))

pub next-position-requires : goal.next-position-requires
next-position-requires c = omega (arith, c.loop-position.invariant.0.room, c.loop-position.invariant.2.row)

pub parent-element-requires : goal.parent-element-requires
parent-element-requires c = c.loop-position.invariant.2.row

pub loop-position-smaller-then-position-eq0 : goal.loop-position-smaller-then-position-eq0
loop-position-smaller-then-position-eq0 c =
    out-less c.args.table.now c.args.pool.now c.args.links.now c.loop-position.invariant.0 c.loop-position.invariant.2 c.if-position-eq0.true c.if-depth-eq0.false c.next-position.result.0 c.next-position.ensures c.parent-element.result.0 c.parent-element.ensures

pub loop-position-preserved-then-position-eq0 : goal.loop-position-preserved-then-position-eq0
loop-position-preserved-then-position-eq0 c =
    let some = c.if-depth-eq0.false in
    (c.loop-position.invariant.0, omega (arith, some), inside-out c.args.table.now c.args.pool.now c.args.links.now c.loop-position.invariant.0 c.loop-position.invariant.2 c.if-position-eq0.true c.if-depth-eq0.false c.next-position.result.0 c.next-position.ensures c.parent-element.result.0 c.parent-element.ensures c.put_end_tag-to.ensures, omega (arith, out-less c.args.table.now c.args.pool.now c.args.links.now c.loop-position.invariant.0 c.loop-position.invariant.2 c.if-position-eq0.true c.if-depth-eq0.false c.next-position.result.0 c.next-position.ensures c.parent-element.result.0 c.parent-element.ensures, c.loop-position.invariant.3))

pub row_at-inner-requires : goal.row_at-inner-requires
row_at-inner-requires c = omega (arith, c.if-position-eq0.false)

pub kind-requires : goal.kind-requires
kind-requires c =
    let h : 0 < c.loop-position.position = omega (arith, c.if-position-eq0.false) in
    inside-row c.args.table.now c.args.pool.now c.args.links.now c.loop-position.invariant.0 c.loop-position.invariant.2 h c.row_at-inner.ensures

pub loop-out-smaller : goal.loop-out-smaller
loop-out-smaller c =
    let h : 0 < c.loop-position.position = omega (arith, c.if-position-eq0.false) in
    let is = sym c.kind.ensures ∙ c.if-kind-eq-ELEMENT.true in
    let same = in-same c.args.table.now c.args.pool.now c.args.links.now c.loop-position.invariant.0 c.loop-position.invariant.2 h c.row_at-inner.ensures is in
    let deeper : suc (c.loop-position.depth - 1) ≡ c.loop-position.depth = omega (arith, c.loop-position.invariant.1) in
    omega (arith, ready-length c.args.table.now c.args.pool.now c.args.links.now c.loop-position.invariant.0 c.row_at-inner.result.0 c.loop-position.depth (c.loop-position.depth - 1) deeper same, c.loop-position.invariant.3, rest-less c.args.table.now c.args.pool.now c.args.links.now c.loop-out.invariant.0 c.loop-out.invariant.1 c.first-position.result.0 c.first-position.ensures (c.loop-out.depth + 1 - 1) (omega arith))

pub loop-out-preserved : goal.loop-out-preserved
loop-out-preserved c =
    let h : 0 < c.loop-position.position = omega (arith, c.if-position-eq0.false) in
    let is = sym c.kind.ensures ∙ c.if-kind-eq-ELEMENT.true in
    let same = in-same c.args.table.now c.args.pool.now c.args.links.now c.loop-position.invariant.0 c.loop-position.invariant.2 h c.row_at-inner.ensures is in
    let deeper : suc (c.loop-position.depth - 1) ≡ c.loop-position.depth = omega (arith, c.loop-position.invariant.1) in
    (c.loop-position.invariant.0, ready-next c.args.table.now c.args.pool.now c.args.links.now c.loop-position.invariant.0 (inside-row c.args.table.now c.args.pool.now c.args.links.now c.loop-position.invariant.0 c.loop-position.invariant.2 h c.row_at-inner.ensures) (c.loop-position.depth - 1) deeper (inside-in c.args.table.now c.args.pool.now c.args.links.now c.loop-position.invariant.0 c.loop-position.invariant.2 h c.row_at-inner.ensures is) same (through c.args.table.now c.args.pool.now c.args.links.now c.loop-out.invariant.0 c.loop-out.invariant.1 c.first-position.result.0 c.first-position.ensures (c.loop-out.depth + 1 - 1) (omega arith) c.put_start_tag-to.ensures c.loop-position.invariant.2.left))

pub put_text-to-requires : goal.put_text-to-requires
put_text-to-requires c =
    let h : 0 < c.loop-position.position = omega (arith, c.if-position-eq0.false) in record { row_bound = inside-row c.args.table.now c.args.pool.now c.args.links.now c.loop-position.invariant.0 c.loop-position.invariant.2 h c.row_at-inner.ensures; marked = c.requires.marked; pooled = c.requires.pooled }

pub next-position-requires-else-position-eq0 : goal.next-position-requires-else-position-eq0
next-position-requires-else-position-eq0 c =
    let h : 0 < c.loop-position.position = omega (arith, c.if-position-eq0.false) in
    omega (arith, c.loop-position.invariant.0.room, inside-row c.args.table.now c.args.pool.now c.args.links.now c.loop-position.invariant.0 c.loop-position.invariant.2 h c.row_at-inner.ensures)

pub loop-position-smaller : goal.loop-position-smaller
loop-position-smaller c =
    let h : 0 < c.loop-position.position = omega (arith, c.if-position-eq0.false) in
    over-less c.args.table.now c.args.pool.now c.args.links.now c.loop-position.invariant.0 c.loop-position.invariant.2 h c.row_at-inner.ensures (λ is. c.if-kind-eq-ELEMENT.false (c.kind.ensures ∙ is)) c.next-position-else-position-eq0.result.0 c.next-position-else-position-eq0.ensures

pub loop-position-preserved : goal.loop-position-preserved
loop-position-preserved c =
    let h : 0 < c.loop-position.position = omega (arith, c.if-position-eq0.false) in
    (c.loop-position.invariant.0, c.loop-position.invariant.1, inside-over c.args.table.now c.args.pool.now c.args.links.now c.loop-position.invariant.0 c.loop-position.invariant.2 h c.row_at-inner.ensures (λ is. c.if-kind-eq-ELEMENT.false (c.kind.ensures ∙ is)) c.next-position-else-position-eq0.result.0 c.next-position-else-position-eq0.ensures c.put_text-to.ensures, omega (arith, over-less c.args.table.now c.args.pool.now c.args.links.now c.loop-position.invariant.0 c.loop-position.invariant.2 h c.row_at-inner.ensures (λ is. c.if-kind-eq-ELEMENT.false (c.kind.ensures ∙ is)) c.next-position-else-position-eq0.result.0 c.next-position-else-position-eq0.ensures, c.loop-position.invariant.3))
