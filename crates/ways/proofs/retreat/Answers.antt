use Prim.Native.Nat.{◌<◌}
use native.Mathlib.Omega.{arith}
use mathlib.Core.Path.{refl, sym, subst, ◌∙◌}
use Rattle.scopes.specs.Standing.{Standing}
use Rattle.scopes.proofs.Reading.{up-falls}
use Rattle.scopes.proofs.Moving.{ready-same}
use Rattle.ways.proofs.retreat.Goals as goal

pub loop-at-init : goal.loop-at-init
loop-at-init c = (c.requires.standing, c.requires.from_bound, refl, refl, λ k. refl)

pub leave-at-requires : goal.leave-at-requires
leave-at-requires c =
    record { ready = ready-same c.loop-at.tops c.loop-at.path c.loop-at.invariant.2 c.loop-at.invariant.3 c.requires.ready; position_nonzero = (omega arith, c.loop-at.invariant.1); standing = c.loop-at.invariant.0 }

pub loop-at-smaller : goal.loop-at-smaller
loop-at-smaller c =
    let lower : c.leave-at.result.0 < c.loop-at.at = subst (λ x. x < c.loop-at.at) (sym c.leave-at.ensures.result_value) (up-falls c.args.table.now c.loop-at.at (omega (arith, c.loop-at-test.true))) in
    lower

pub loop-at-preserved : goal.loop-at-preserved
loop-at-preserved c =
    let lower : c.leave-at.result.0 < c.loop-at.at = subst (λ x. x < c.loop-at.at) (sym c.leave-at.ensures.result_value) (up-falls c.args.table.now c.loop-at.at (omega (arith, c.loop-at-test.true))) in (
      subst (Standing c.args.table.now c.args.notes.now c.leave-at.new.tops c.leave-at.new.path) (sym c.leave-at.ensures.result_value) c.leave-at.ensures.standing_2,
      omega (arith, c.loop-at.invariant.1),
      c.leave-at.auto.tops ∙ c.loop-at.invariant.2,
      c.leave-at.auto.path ∙ c.loop-at.invariant.3,
      λ k. c.leave-at.ensures.untouched k ∙ c.loop-at.invariant.4 k,
    )

pub shape_of-tops : goal.shape_of-tops
shape_of-tops c = c.loop-at.invariant.2

pub shape_of-path : goal.shape_of-path
shape_of-path c = c.loop-at.invariant.3

pub returns : goal.returns
returns c = record { result_le_to = omega arith; standing_2 = c.loop-at.invariant.0; untouched = c.loop-at.invariant.4 }
