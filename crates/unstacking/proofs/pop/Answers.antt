-- `unstacking::pop` meets its contract.
use Rattle.stacks.proofs.Pushed.{pop-both}
use native.Mathlib.Omega.{arith}
use Rattle.unstacking.proofs.pop.Goals as goal

pub replace-requires : goal.replace-requires
replace-requires c = (c.args.path.now, λ h. c.requires.inside, rw c.under-shadowed.ensures c.requires.none_or_inside)

pub bounds-path-position : goal.bounds-path-position
bounds-path-position c = omega (arith, c.requires.inside.placed)

pub bounds-path-2-2 : goal.bounds-path-2-2
bounds-path-2-2 c = omega (arith, c.requires.inside.placed)

pub returns : goal.returns
returns c =
    let all = pop-both c.args.notes.now c.args.tops.now c.args.path.now _ c.requires.inside c.name_at-prefix.result.0 c.name_at-value.result.0 c.name_at-prefix.ensures c.name_at-value.ensures
    c.under-shadowed.result.0 c.under-shadowed.ensures c.requires.none_or_inside c.replace.new.tops
    c.uncover.new.tops c.uncover-2.new.tops c.replace.ensures c.uncover.ensures c.uncover-2.ensures in record { by_index = all.0; untouched = all.1 }
