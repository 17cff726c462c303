-- `hash_of` meets its contract.
use mathlib.Core.Path.{refl}
use native.Mathlib.Omega.{arith}
use Rattle.hash.proofs.Hashing.{hash-short, hash-long}
use Rattle.hash.proofs.hash_of.Goals as goal

pub returns-then-name-lt8 : goal.returns-then-name-lt8
returns-then-name-lt8 c = hash-short c.args.name.now (omega (arith, c.if-name-lt8.true)) c.mix_short.ensures refl

pub returns : goal.returns
returns c = hash-long c.args.name.now (omega (arith, c.if-name-lt8.false)) c.mix_long.ensures refl
