use Prim.Native.Nat.{◌+◌, ◌*◌}
use mathlib.Core.Path.{◌≡◌, sym, ◌∙◌}
use native.Mathlib.Omega.{arith}
use Rattle.kinds.proofs.PlainNames.{plain-none, plain_other, plain-rest, part-fails, part-passes, group-is}
use Rattle.kinds.proofs.is_plain.Goals as goal

pub returns-then-name-eq0 : goal.returns-then-name-eq0
returns-then-name-eq0 c = plain-none c.args.name.now c.if-name-eq0.true

pub returns-then-not-is_plain_first : goal.returns-then-not-is_plain_first
returns-then-not-is_plain_first c = plain_other c.args.name.now c.is_plain_first.ensures (c.if-not-is_plain_first.true)

pub loop-bytes-init : goal.loop-bytes-init
loop-bytes-init c = plain-rest c.args.name.now c.if-name-eq0.false c.is_plain_first.ensures (c.if-not-is_plain_first.false)

pub returns-then-not-all_plain : goal.returns-then-not-all_plain
returns-then-not-all_plain c =
    let name = c.args.name.now in
    let i = c.loop-bytes.bytes-index in
    let part = group-is 16 name i c.as_chunks.ensures.front (omega arith) c.all_plain.ensures in
    sym (part-fails name 16 (16 * i) part c.if-not-all_plain.true) ∙ c.loop-bytes.invariant

pub loop-bytes-preserved : goal.loop-bytes-preserved
loop-bytes-preserved c =
    let name = c.args.name.now in
    let i = c.loop-bytes.bytes-index in
    let part = group-is 16 name i c.as_chunks.ensures.front (omega arith) c.all_plain.ensures in
    let next : 16 * (i + 1) ≡ 16 * i + 16 = omega arith in
    rw next (part-passes name 16 (16 * i) part c.if-not-all_plain.false ∙ c.loop-bytes.invariant)
