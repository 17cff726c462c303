use mathlib.Core.Path.{refl, ◌∙◌}
use native.Mathlib.Omega.{arith}
use Rattle.escapes.specs.Escapes.{escaped}
use Rattle.escapes.proofs.Asking.{in-quotes}
use Rattle.escaped_bytes.proofs.Left.{left-start}
use Rattle.escaped_runs.proofs.Writing.{left-run, left-short, behind-run}
use Rattle.escaped_runs.proofs.write_runs.Goals as goal

pub blocks_of-blocks-requires : goal.blocks_of-blocks-requires
blocks_of-blocks-requires c = tt

pub overflow_sub-limit : goal.overflow_sub-limit
overflow_sub-limit c = omega (arith, c.requires.1)

pub loop-i-init : goal.loop-i-init
loop-i-init c =
    left-start c.args.quoted c.args.value.now (escaped c.args.quoted c.args.value.now) c.args.out.now c.args.at 0 (omega arith) refl

pub put_each-requires : goal.put_each-requires
put_each-requires c = (c.requires.0, c.loop-i.invariant.within)

pub shape_of-out-then-to-limit : goal.shape_of-out-then-to-limit
shape_of-out-then-to-limit c = c.put_each.ensures.size ∙ c.loop-i.invariant.size

pub returns-then-to-limit : goal.returns-then-to-limit
returns-then-to-limit c = c.loop-i.invariant.whole c.put_each.ensures

pub length_from-n-requires : goal.length_from-n-requires
length_from-n-requires c = (omega (arith, c.blocks_of-blocks.ensures), c.requires.2)

pub end_of-end-requires : goal.end_of-end-requires
end_of-end-requires c = (omega (arith, c.blocks_of-blocks.ensures), omega arith)

pub slice_bounds-put_bytes-count : goal.slice_bounds-put_bytes-count
slice_bounds-put_bytes-count c = omega (arith, c.end_of-end.ensures.0)

pub slice_bounds-put_bytes-start : goal.slice_bounds-put_bytes-start
slice_bounds-put_bytes-start c = omega (arith, c.end_of-end.ensures.0)

pub slice_bounds-put_bytes-end : goal.slice_bounds-put_bytes-end
slice_bounds-put_bytes-end c = omega (arith, c.end_of-end.ensures.1)

pub put_bytes-to-requires : goal.put_bytes-to-requires
put_bytes-to-requires c = tt

pub loop-i-smaller-then-n-ge-BLOCK : goal.loop-i-smaller-then-n-ge-BLOCK
loop-i-smaller-then-n-ge-BLOCK c = omega (arith, c.end_of-end.ensures.0, c.end_of-end.ensures.1)

pub loop-i-preserved-then-n-ge-BLOCK : goal.loop-i-preserved-then-n-ge-BLOCK
loop-i-preserved-then-n-ge-BLOCK c =
    left-run c.args.quoted c.args.value.now (escaped c.args.quoted c.args.value.now) c.args.out.now c.args.at c.loop-i.invariant c.length_from-n.result c.length_from-n.ensures.value_value c.end_of-end.result (omega (arith, c.end_of-end.ensures.0)) c.end_of-end.ensures.1 c.end_of-end.ensures.2 c.put_bytes-to.ensures

pub overflow_add-end : goal.overflow_add-end
overflow_add-end c = omega (arith, c.length_from-n.ensures.result_in_bounds)

pub copy_short-behind-requires : goal.copy_short-behind-requires
copy_short-behind-requires c = (omega (arith, c.requires.1, c.loop-i.invariant.size), omega (arith, c.blocks_of-blocks.ensures), omega arith)

pub bounds-value-end : goal.bounds-value-end
bounds-value-end c = omega (arith, c.blocks_of-blocks.ensures)

pub write_escape-to-requires : goal.write_escape-to-requires
write_escape-to-requires c =
    let here = behind-run c.args.quoted c.args.value.now (escaped c.args.quoted c.args.value.now) c.args.out.now c.args.at c.loop-i.invariant c.length_from-n.result c.length_from-n.ensures.value_value (omega (arith, c.blocks_of-blocks.ensures)) in
    (c.requires.0, omega (arith, c.requires.1, c.loop-i.invariant.size, c.copy_short-behind.ensures.0, c.copy_short-behind.ensures.1.size), (in-quotes c.args.quoted _ here).0)

pub overflow_add-i : goal.overflow_add-i
overflow_add-i c = omega (arith, c.blocks_of-blocks.ensures)

pub loop-i-smaller : goal.loop-i-smaller
loop-i-smaller c = omega (arith, c.blocks_of-blocks.ensures)

pub loop-i-preserved : goal.loop-i-preserved
loop-i-preserved c =
    left-short c.args.quoted c.args.value.now (escaped c.args.quoted c.args.value.now) c.args.out.now c.args.at c.loop-i.invariant c.length_from-n.result c.length_from-n.ensures.value_value (omega (arith, c.blocks_of-blocks.ensures)) c.copy_short-behind.ensures.1 c.write_escape-to.ensures

pub write_tail-requires : goal.write_tail-requires
write_tail-requires c = (c.requires.0, omega (arith, c.requires.1, c.loop-i.invariant.size), c.loop-i.invariant.within, c.requires.2)

pub shape_of-out : goal.shape_of-out
shape_of-out c = c.write_tail.ensures.size ∙ c.loop-i.invariant.size

pub returns : goal.returns
returns c = c.loop-i.invariant.whole c.write_tail.ensures
