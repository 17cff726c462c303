-- `row_checks::counted` meets its contract.
use mathlib.Core.Path.{refl, sym, ◌∙◌}
use native.Mathlib.Omega.{arith}
use Rattle.row_checks.proofs.counted.Goals as goal

pub returns-then-not-drops : goal.returns-then-not-drops
returns-then-not-drops c = rw (c.if-not-drops.true) refl

pub is_dropped-requires : goal.is_dropped-requires
is_dropped-requires c = c.requires.0 (c.if-not-drops.false)

pub overflow_add-result : goal.overflow_add-result
overflow_add-result c = omega (arith, c.requires.1, c.requires.2)

pub returns-then-is_dropped : goal.returns-then-is_dropped
returns-then-is_dropped c = rw (c.if-not-drops.false, sym c.is_dropped.ensures ∙ c.if-is_dropped.true) refl

pub returns : goal.returns
returns c = rw (c.if-not-drops.false, sym c.is_dropped.ensures ∙ c.if-is_dropped.false) refl
