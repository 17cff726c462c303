use Prim.Native.Nat.{◌+◌, ◌-◌}
use mathlib.Core.Path.{◌≡◌}
use native.Mathlib.Omega.{arith}
use lib.ListN.{length, get_or, take, drop, length-drop}
use lib.Seq.{get_or-drop}
use Rattle.std.proofs.lemmas.List.{take_all}
use Rattle.escapes.specs.Escapes.{escaped}
use Rattle.escaped_bytes.proofs.Left.{left-byte, left_end}
use Rattle.escaped_bytes.proofs.put_each.Goals as goal

pub loop-b-preserved : goal.loop-b-preserved
loop-b-preserved c =
    let value = c.args.value.now in
    let from = c.args.from in
    let k = c.loop-b.b-index in
    let byte : get_or (take (length value - from) (drop from value)) k 0 ≡ get_or value (from + k) 0 = rw (take_all (length value - from) (drop from value) (omega (arith, length-drop from value))) (get_or-drop from value k 0) in
    let next : from + (k + 1) ≡ from + k + 1 = omega arith in
    rw next
    (left-byte c.args.quoted value (escaped c.args.quoted (drop from value)) c.args.out.now c.args.at c.loop-b.invariant (omega arith) (rw byte at c.put_byte-to.ensures))

pub returns : goal.returns
returns c =
    left_end c.args.quoted c.args.value.now (escaped c.args.quoted (drop c.args.from c.args.value.now)) c.args.out.now c.args.at c.loop-b.invariant (omega arith)
