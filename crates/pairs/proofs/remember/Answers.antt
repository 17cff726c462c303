-- `remember` meets its contract.
use mathlib.Core.Path.{refl}
use native.Mathlib.Omega.{arith}
use lib.ListN.{length-set}
use Rattle.pairs.specs.Pairs.{remembered}
use Rattle.pairs.proofs.remember.Goals as goal

pub bounds-pairs-slot-2 : goal.bounds-pairs-slot-2
bounds-pairs-slot-2 c = simp length-set (omega arith)

pub bounds-pairs-slot-3 : goal.bounds-pairs-slot-3
bounds-pairs-slot-3 c = simp length-set (omega arith)

pub returns : goal.returns
unfolding remembered
returns c = refl
