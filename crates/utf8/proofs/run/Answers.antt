use Rattle.std.proofs.Common.{◌∙◌, arith}
use Rattle.utf8.proofs.Steps.{ascii-byte}
use Rattle.utf8.proofs.run.Goals as goal

pub loop-j-init : goal.loop-j-init
loop-j-init c = ascii-byte c.args.bytes.now c.args.i c.requires.0 c.requires.1

pub loop-j-preserved : goal.loop-j-preserved
loop-j-preserved c = ascii-byte c.args.bytes.now c.loop-j.j (omega arith) (omega arith) ∙ c.loop-j.invariant
