use mathlib.Core.Path.{sym, ◌∙◌}
use native.Mathlib.Omega.{arith}
use Rattle.characters.proofs.Bytes.{forbidden-there, forbidden-next, forbidden-end, harmless}
use Rattle.characters.proofs.holds_forbidden.Goals as goal

pub returns-then-all_harmless : goal.returns-then-all_harmless
returns-then-all_harmless c = sym (harmless c.args.value.now (sym c.all_harmless.ensures ∙ c.if-all_harmless.true))

pub returns-then-starts_forbidden : goal.returns-then-starts_forbidden
returns-then-starts_forbidden c =
    sym (forbidden-there c.args.value.now c.loop-i.i (omega arith) (sym c.starts_forbidden.ensures ∙ c.if-starts_forbidden.true)) ∙ c.loop-i.invariant

pub loop-i-preserved : goal.loop-i-preserved
loop-i-preserved c =
    forbidden-next c.args.value.now c.loop-i.i (omega arith) (sym c.starts_forbidden.ensures ∙ c.if-starts_forbidden.false) ∙ c.loop-i.invariant

pub returns : goal.returns
returns c = sym (forbidden-end c.args.value.now c.loop-i.i (omega arith)) ∙ c.loop-i.invariant
