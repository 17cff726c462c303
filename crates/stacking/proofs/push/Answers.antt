-- `stacking::push` meets its contract.
use native.Mathlib.Omega.{arith}
use lib.ListN.{length-set}
use Rattle.stacks.proofs.Pushed.{push-both}
use Rattle.stacking.proofs.push.Goals as goal

pub replace-requires : goal.replace-requires
replace-requires c =
    (c.args.path.now, rw (c.nearest-shadowed.ensures, c.name_at-prefix.ensures) c.requires.none_or_inside, λ h. c.requires.inside)

pub bounds-path-2 : goal.bounds-path-2
bounds-path-2 c = omega (arith, c.requires.inside.placed, c.cover.auto.path, c.cover-2.auto.path)

pub bounds-path-position : goal.bounds-path-position
bounds-path-position c = omega (arith, c.requires.inside.placed, c.cover.auto.path, c.cover-2.auto.path)

pub bounds-path-2-2 : goal.bounds-path-2-2
bounds-path-2-2 c = simp length-set (omega (arith, c.requires.inside.placed, c.cover.auto.path, c.cover-2.auto.path))

pub shape_of-path : goal.shape_of-path
shape_of-path c = simp length-set (omega arith)

pub returns : goal.returns
returns c =
    let all = push-both c.args.notes.now c.args.tops.now c.args.path.now c.args.position.0 c.requires.inside c.name_at-prefix.result.0 c.name_at-value.result.0 c.name_at-prefix.ensures c.name_at-value.ensures
    c.nearest-shadowed.result.0 c.nearest-shadowed.ensures c.requires.none_or_inside c.replace.new.tops
    c.cover.new.tops c.cover-2.new.tops c.cover.new.path c.cover-2.new.path c.replace.ensures c.cover.ensures.tops_after c.cover.ensures.path_after c.cover-2.ensures.tops_after c.cover-2.ensures.path_after in record { by_index = all.0; untouched = all.1 }
