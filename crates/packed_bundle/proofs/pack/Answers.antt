-- `pack` meets its contract.
use mathlib.Core.Path.{refl, sym}
use native.Mathlib.Omega.{arith}
use borrow.Rule.Slice.PartMut.{Post-is}
use lib.Seq.{length-take-le}
use Rattle.rules.proofs.Lists.{not-true, not-false}
use Rattle.rules.proofs.Accepted.{unrefused}
use Rattle.packed_bundle.proofs.Leaving.{past-left, rows-size, done-left}
use borrow.Author.Rules.{rules}
use Rattle.packed_bundle.proofs.pack.Goals as goal

pub returns-then-not-made : goal.returns-then-not-made
returns-then-not-made c =
    past-left c.args.table.now c.args.pool.now c.requires.enough.accepted c.pack-made.ensures (not-true _ c.if-not-made.true) (search rules) (c.refuse.ensures.value, c.refuse.ensures.out_after)

pub slice_bounds-finish-end-2 : goal.slice_bounds-finish-end-2
slice_bounds-finish-end-2 c = sym (length-take-le _ _ (search rules))

pub finish-requires : goal.finish-requires
finish-requires c =
    let bound = (unrefused c.args.table.now c.args.pool.now c.requires.enough.accepted).size.table_bound in
    let fits = not-false _ c.if-not-made.false in
    let size = rows-size c.args.table.now c.args.pool.now c.requires.enough.accepted c.pack-made.ensures fits in
    (omega (arith, size, bound), c.pack-made.ensures.short fits)

pub returns : goal.returns
returns c =
    done-left c.args.table.now c.args.pool.now c.requires.enough.accepted c.pack-made.ensures (not-false _ c.if-not-made.false) c.args.out.now c.start_of-behind.ensures.0 c.start_of-behind.ensures.1 refl (Post-is _ _ c.args.out.now c.start_of-behind.ensures.0) (search rules) c.finish.ensures.leaves c.finish.ensures.leaves_2
