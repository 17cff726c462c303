-- `learn` meets its contract.
use mathlib.Core.Path.{refl}
use native.Mathlib.Omega.{arith}
use lib.ListN.{length-set}
use Rattle.packed_index.specs.Index.{stretched}
use Rattle.repeats.proofs.Repeating.{learned-nothing}
use Rattle.repeats.proofs.learn.Goals as goal

pub returns-then-size-wide : goal.returns-then-size-wide
returns-then-size-wide c = learned-nothing c.args.pool.now c.args.index.now

pub returns-then-not-is_repeated : goal.returns-then-not-is_repeated
returns-then-not-is_repeated c = learned-nothing c.args.pool.now c.args.index.now

pub grown-more-requires : goal.grown-more-requires
grown-more-requires c = c.is_repeated.ensures (c.if-not-is_repeated.false)

pub bounds-index-1029-2 : goal.bounds-index-1029-2
bounds-index-1029-2 c = simp length-set (omega arith)

pub bounds-index-1030 : goal.bounds-index-1030
bounds-index-1030 c = simp length-set (omega arith)

pub returns : goal.returns
unfolding stretched
returns c = (_, _, _, refl, λ r. c.grown_back-start.ensures.1)
