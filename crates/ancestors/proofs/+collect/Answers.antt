-- The row falls with each step.
use Prim.Native.Nat.{◌<◌}
use native.Mathlib.Nat.{lt_trans}
use mathlib.Core.Path.{subst}
use Rattle.ancestors.proofs.+collect.Goals as goal

pub collect-requires : goal.collect-requires
collect-requires t c =
    let lower : c.step-first.result.row.0 < c.args.row.0 = c.if-first-row.true in
    let lowest : c.step-second.result.row.0 < c.step-first.result.row.0 = c.if-second-first.true in
    let below = lt_trans lowest lower in
    (subst (λ t. c.step-second.result.row.0 < t) c.decreases below, (lt_trans below c.requires.0, (c.step-second.ensures.onward lowest).0))
