use native.Mathlib.Omega.{arith}
use lib.ListN.{drop}
use Rattle.escapes.specs.Escapes.{escaped}
use Rattle.escaped_bytes.proofs.Left.{left-byte, left_end}
use Rattle.escaped_bytes.proofs.write_each.Goals as goal

pub returns-then-to-limit : goal.returns-then-to-limit
returns-then-to-limit c = c.loop-i.invariant.whole c.put_each.ensures

pub loop-i-preserved : goal.loop-i-preserved
loop-i-preserved c =
    left-byte c.args.quoted c.args.value.now (escaped c.args.quoted (drop c.args.from c.args.value.now)) c.args.out.now c.args.at c.loop-i.invariant (omega arith) c.write_byte-to.ensures

pub returns : goal.returns
returns c =
    left_end c.args.quoted c.args.value.now (escaped c.args.quoted (drop c.args.from c.args.value.now)) c.args.out.now c.args.at c.loop-i.invariant (omega arith)
