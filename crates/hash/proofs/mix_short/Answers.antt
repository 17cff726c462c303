-- `mix_short` meets its contract.
use native.Mathlib.Omega.{arith}
use Rattle.hash.proofs.Hashing.{short-fours, short-empty, short-bytes}
use Rattle.hash.proofs.mix_short.Goals as goal

pub returns-then-size-ge4 : goal.returns-then-size-ge4
returns-then-size-ge4 c =
    short-fours c.args.name.now (omega (arith, c.if-size-ge4.true)) c.four.ensures c.four-then-size-ge4.ensures c.mix.ensures

pub returns-then-size-eq0 : goal.returns-then-size-eq0
returns-then-size-eq0 c = short-empty c.args.name.now (omega (arith, c.if-size-ge4.false)) c.if-size-eq0.true

pub returns : goal.returns
returns c =
    short-bytes c.args.name.now (omega (arith, c.if-size-ge4.false)) c.if-size-eq0.false c.wide.ensures.value c.wide-2.ensures.value c.wide-3.ensures.value c.mix-2.ensures
