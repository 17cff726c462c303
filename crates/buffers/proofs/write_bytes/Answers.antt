use mathlib.Core.Path.{refl}
use native.Mathlib.Omega.{arith}
use lib.ListN.{length-set}
use lib.Seq.{paste-zero}
use Rattle.buffers.proofs.Writes.{write_step, write-end}
use Rattle.buffers.proofs.write_bytes.Goals as goal

pub loop-i-init : goal.loop-i-init
loop-i-init c = (refl, paste-zero c.args.out.now c.args.at c.args.bytes.now)

pub loop-i-preserved : goal.loop-i-preserved
loop-i-preserved c =
    (simp length-set c.loop-i.invariant.0, write_step c.args.out.now c.loop-i.out c.args.at c.args.bytes.now c.loop-i.i c.loop-i.invariant.1 (omega arith) c.loop-i-test.true)

pub returns : goal.returns
returns c =
    record { value = refl; out_after = write-end c.args.out.now c.loop-i.out c.args.at c.args.bytes.now c.loop-i.i c.loop-i.invariant.1 c.loop-i.auto.i-end c.loop-i-test.false }
