use native.Mathlib.Omega.{arith}
use mathlib.Core.Path.{◌≡◌, refl, subst, ◌∙◌}
use mathlib.Core.List.{[]}
use Rattle.scopes.proofs.Moving.{Leaving, leave-start, leave-inside, step_falls, leave-step, leave-end}
use Rattle.scopes.proofs.leave.Goals as goal

pub link_at-at-requires : goal.link_at-at-requires
link_at-at-requires c =
    let room = c.requires.ready.room.noted in
    (omega arith, omega arith, omega arith)

pub loop-at-init : goal.loop-at-init
loop-at-init c =
    (leave-start c.args.table.now c.args.notes.now c.args.position.0 c.requires.position_nonzero c.args.tops.now c.args.path.now c.requires.ready c.link_at-at.result.0 c.link_at-at.ensures c.requires.standing, refl, refl, λ k. refl)

pub pop-requires : goal.pop-requires
pop-requires c =
    let all = leave-inside c.args.table.now c.args.notes.now c.args.position.0 c.requires.position_nonzero c.args.tops.now c.args.path.now c.requires.ready c.loop-at.tops c.loop-at.path c.loop-at.invariant.1 c.loop-at.invariant.2 c.loop-at.at c.loop-at-test.true c.loop-at.invariant.0 in record { inside = all.0; none_or_inside = all.1 }

pub link_at-at-requires-in-loop-at : goal.link_at-at-requires-in-loop-at
link_at-at-requires-in-loop-at c =
    let room = c.requires.ready.room.noted in
    let within = c.loop-at.invariant.0.reached.within in
    (omega arith, omega arith, omega arith)

pub loop-at-smaller : goal.loop-at-smaller
loop-at-smaller c =
    step_falls c.args.table.now c.args.notes.now c.args.position.0 c.requires.position_nonzero c.args.tops.now c.args.path.now c.requires.ready c.loop-at.tops c.loop-at.path c.loop-at.invariant.1 c.loop-at.invariant.2 c.loop-at.at c.loop-at-test.true c.link_at-at-in-loop-at.result.0 c.link_at-at-in-loop-at.ensures [] [] c.loop-at.invariant.0.reached

pub loop-at-preserved : goal.loop-at-preserved
loop-at-preserved c =
    (leave-step c.args.table.now c.args.notes.now c.args.position.0 c.requires.position_nonzero c.args.tops.now c.args.path.now c.requires.ready c.loop-at.tops c.loop-at.path c.loop-at.invariant.1 c.loop-at.invariant.2 c.loop-at.at c.loop-at-test.true c.link_at-at-in-loop-at.result.0 c.link_at-at-in-loop-at.ensures c.pop.new.tops c.pop.new.path c.loop-at.invariant.0 c.pop.ensures.by_index, c.pop.auto.tops ∙ c.loop-at.invariant.1, c.pop.auto.path ∙ c.loop-at.invariant.2, λ k. c.pop.ensures.untouched k ∙ c.loop-at.invariant.3 k)

pub up-requires : goal.up-requires
up-requires c = c.requires.position_nonzero

pub shape_of-tops : goal.shape_of-tops
shape_of-tops c = c.loop-at.invariant.1

pub shape_of-path : goal.shape_of-path
shape_of-path c = c.loop-at.invariant.2

pub returns : goal.returns
returns c =
    let none : c.loop-at.at ≡ 0 = omega arith in record { result_value = c.up.ensures; standing_2 = leave-end c.args.table.now c.args.notes.now c.args.position.0 c.requires.position_nonzero (subst (Leaving c.args.table.now c.args.notes.now c.args.position.0 c.loop-at.tops c.loop-at.path) none c.loop-at.invariant.0); untouched = c.loop-at.invariant.3 }
