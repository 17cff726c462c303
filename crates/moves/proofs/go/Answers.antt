-- `moves::go` meets its contract.
use Prim.Native.Nat.{◌<◌}
use native.Mathlib.Omega.{arith}
use mathlib.Core.Path.{◌≡◌, sym, subst, ◌∙◌}
use Rattle.scopes.specs.Standing.{Standing}
use Rattle.scopes.proofs.Reading.{up-falls}
use Rattle.scopes.proofs.Moving.{ready-same}
use Rattle.moves.proofs.go.Goals as goal

pub retreat-at-requires-then-at-to : goal.retreat-at-requires-then-at-to
retreat-at-requires-then-at-to c =
    record { ready = ready-same c.retreat-at.new.tops c.retreat-at.new.path c.retreat-at.auto.tops c.retreat-at.auto.path c.requires.ready; from_bound = omega (arith, c.requires.from_bound.1, c.retreat-at.ensures.result_le_to); standing = c.retreat-at.ensures.standing_2 }

pub descend-requires : goal.descend-requires
descend-requires c =
    let lower : c.up-above.result.0 < c.args.to.0 = subst (λ x. x < c.args.to.0) (sym c.up-above.ensures) (up-falls c.args.table.now c.args.to.0 (omega (arith, c.if-at-to.true))) in record { ready = ready-same c.retreat-at-then-at-to.new.tops c.retreat-at-then-at-to.new.path (c.retreat-at-then-at-to.auto.tops ∙ c.retreat-at.auto.tops) (c.retreat-at-then-at-to.auto.path ∙ c.retreat-at.auto.path) c.requires.ready; from_le_to = (omega (arith, c.retreat-at-then-at-to.ensures.result_le_to), c.requires.from_bound.1); standing = c.retreat-at-then-at-to.ensures.standing_2 }

pub enter-requires : goal.enter-requires
enter-requires c =
    let there : c.retreat-at-then-at-to.result.0 ≡ c.up-above.result.0 = omega (arith, c.retreat-at-then-at-to.ensures.result_le_to, c.if-at-above.false) in record { ready = ready-same c.retreat-at-then-at-to.new.tops c.retreat-at-then-at-to.new.path (c.retreat-at-then-at-to.auto.tops ∙ c.retreat-at.auto.tops) (c.retreat-at-then-at-to.auto.path ∙ c.retreat-at.auto.path) c.requires.ready; position_nonzero = (omega (arith, c.if-at-to.true), c.requires.from_bound.1); standing = subst (Standing c.args.table.now c.args.notes.now c.retreat-at-then-at-to.new.tops c.retreat-at-then-at-to.new.path) (there ∙ c.up-above.ensures) c.retreat-at-then-at-to.ensures.standing_2 }

pub returns-then-at-above : goal.returns-then-at-above
returns-then-at-above c =
    record { standing_2 = c.descend.ensures.standing_2; untouched = λ k. c.descend.ensures.untouched k ∙ c.retreat-at-then-at-to.ensures.untouched k ∙ c.retreat-at.ensures.untouched k }

pub returns-else-at-above : goal.returns-else-at-above
returns-else-at-above c =
    record { standing_2 = c.enter.ensures.standing_2; untouched = λ k. c.enter.ensures.untouched k ∙ c.retreat-at-then-at-to.ensures.untouched k ∙ c.retreat-at.ensures.untouched k }

pub returns-else-at-to : goal.returns-else-at-to
returns-else-at-to c =
    let there : c.retreat-at.result.0 ≡ c.args.to.0 = omega (arith, c.retreat-at.ensures.result_le_to) in record { standing_2 = subst (Standing c.args.table.now c.args.notes.now c.retreat-at.new.tops c.retreat-at.new.path) there c.retreat-at.ensures.standing_2; untouched = c.retreat-at.ensures.untouched }
