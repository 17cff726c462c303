use native.Mathlib.Omega.{arith}
use mathlib.Core.Path.{◌≡◌, sym, subst, ◌∙◌}
use Rattle.stacks.proofs.Served.{Walking, walk_start, walk_inside, walk-found, walk-falls, walk-next, walk_end, none-serves}
use Rattle.serving.proofs.nearest.Goals as goal

pub returns-then-tally-eq0 : goal.returns-then-tally-eq0
returns-then-tally-eq0 c =
    none-serves c.args.notes.now c.args.tops.now c.args.path.now c.args.number.0 c.tally.result c.tally.ensures (omega arith)

pub loop-at-init : goal.loop-at-init
loop-at-init c =
    walk_start c.args.notes.now c.args.tops.now c.args.path.now c.args.number.0 c.requires.held c.top-at.result.0 c.top-at.ensures

pub serves-requires : goal.serves-requires
serves-requires c =
    (c.args.path.now, walk_inside c.args.notes.now c.args.tops.now c.args.path.now c.args.number.0 c.loop-at.at c.loop-at-test.true c.loop-at.invariant)

pub returns-then-serves : goal.returns-then-serves
returns-then-serves c =
    walk-found c.args.notes.now c.args.tops.now c.args.path.now c.args.number.0 c.loop-at.at c.loop-at-test.true c.loop-at.invariant (sym c.serves.ensures ∙ c.if-serves.true)

pub under-at-requires : goal.under-at-requires
under-at-requires c =
    let placed = (walk_inside c.args.notes.now c.args.tops.now c.args.path.now c.args.number.0 c.loop-at.at c.loop-at-test.true c.loop-at.invariant).placed in
    omega arith

pub loop-at-smaller : goal.loop-at-smaller
loop-at-smaller c =
    walk-falls c.args.notes.now c.args.tops.now c.args.path.now c.args.number.0 c.loop-at.at c.loop-at-test.true c.loop-at.invariant c.under-at.result.0 c.under-at.ensures

pub loop-at-preserved : goal.loop-at-preserved
loop-at-preserved c =
    walk-next c.args.notes.now c.args.tops.now c.args.path.now c.args.number.0 c.loop-at.at c.loop-at-test.true c.loop-at.invariant c.under-at.result.0 c.under-at.ensures (sym c.serves.ensures ∙ c.if-serves.false)

pub returns : goal.returns
returns c =
    let none : c.loop-at.at ≡ 0 = omega arith in
    walk_end c.args.notes.now c.args.tops.now c.args.path.now c.args.number.0 (subst (Walking c.args.notes.now c.args.tops.now c.args.path.now c.args.number.0) none c.loop-at.invariant)
