-- `remember_in` meets its contract.
use mathlib.Core.Path.{refl}
use native.Mathlib.Omega.{arith}
use lib.ListN.{length-set}
use Rattle.packed_index.specs.Index.{remembered}
use Rattle.packed_pool.proofs.remember_in.Goals as goal

pub bounds-index-slot-2 : goal.bounds-index-slot-2
bounds-index-slot-2 c = simp length-set (omega arith)

pub bounds-index-slot-3 : goal.bounds-index-slot-3
bounds-index-slot-3 c = simp length-set (omega arith)

pub returns : goal.returns
unfolding remembered
returns c = refl
