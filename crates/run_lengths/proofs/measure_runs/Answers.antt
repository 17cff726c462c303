use Prim.Native.Nat.{◌-◌}
use native.Mathlib.Omega.{arith}
use Rattle.run_lengths.proofs.Lengths.{stored-start, stored-small, stored-all, stored-byte}
use Rattle.run_lengths.proofs.measure_runs.Goals as goal

pub loop-i-init : goal.loop-i-init
loop-i-init c = stored-start c.args.bytes.now c.args.runs.now

pub run_from-text-requires : goal.run_from-text-requires
run_from-text-requires c =
    omega (arith, c.requires.0, (stored-small c.args.bytes.now c.args.runs.now c.loop-i.invariant (omega arith)).0)

pub run_from-quoted-requires : goal.run_from-quoted-requires
run_from-quoted-requires c =
    omega (arith, c.requires.0, (stored-small c.args.bytes.now c.args.runs.now c.loop-i.invariant (omega arith)).1)

pub loop-i-preserved : goal.loop-i-preserved
loop-i-preserved c =
    stored-byte c.args.bytes.now c.args.runs.now c.loop-i.invariant (c.loop-i.i - 1) (omega arith) c.run_from-text.result c.run_from-quoted.result c.run_from-text.ensures c.run_from-quoted.ensures c.requires.1

pub returns : goal.returns
returns c = stored-all c.args.bytes.now c.args.runs.now c.loop-i.invariant (omega arith) c.requires.1
