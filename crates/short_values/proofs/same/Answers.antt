use Prim.Native.Nat.{◌-◌}
use mathlib.Core.Path.{sym, ◌∙◌}
use native.Mathlib.Omega.{arith}
use Rattle.short_strings.proofs.Bytes.{equal-end, equal-group, differ-group}
use Rattle.short_values.proofs.Groups.{overlap}
use Rattle.short_values.proofs.same.Goals as goal

pub same_few-requires : goal.same_few-requires
same_few-requires c = (c.requires, omega arith)

pub returns-then-i-lt8 : goal.returns-then-i-lt8
returns-then-i-lt8 c = c.same_few.ensures

pub loop-i-init : goal.loop-i-init
loop-i-init c = equal-end c.args.a.now c.args.b.now c.requires

pub same_eight-requires : goal.same_eight-requires
same_eight-requires c = let inv = c.loop-i.invariant in (omega (arith, inv.within), omega (arith, inv.within, inv.level))

pub returns-then-not-same_eight : goal.returns-then-not-same_eight
returns-then-not-same_eight c =
    differ-group c.args.a.now c.args.b.now 8 (c.loop-i.i - 8) (sym c.same_eight.ensures ∙ c.if-not-same_eight.true)

pub loop-i-preserved : goal.loop-i-preserved
loop-i-preserved c =
    equal-group c.args.a.now c.args.b.now 8 c.loop-i.i (omega arith) c.loop-i.invariant (sym c.same_eight.ensures ∙ c.if-not-same_eight.false)

pub same_eight-requires-2 : goal.same_eight-requires-2
same_eight-requires-2 c = (omega arith, omega (arith, c.requires))

pub returns : goal.returns
returns c = overlap c.args.a.now c.args.b.now 8 c.loop-i.i (omega arith) c.loop-i.invariant c.same_eight-2.ensures
