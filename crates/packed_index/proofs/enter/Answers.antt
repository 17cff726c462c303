-- `enter` meets its contract.
use mathlib.Core.Path.{refl}
use native.Mathlib.Omega.{arith}
use lib.ListN.{length-set}
use Rattle.packed_index.specs.Index.{followed}
use Rattle.packed_index.proofs.enter.Goals as goal

pub bounds-index-at-2 : goal.bounds-index-at-2
bounds-index-at-2 c = simp length-set (omega arith)

pub bounds-index-at-3 : goal.bounds-index-at-3
bounds-index-at-3 c = simp length-set (omega arith)

pub bounds-index-at-4 : goal.bounds-index-at-4
bounds-index-at-4 c = simp length-set (omega arith)

pub bounds-index-at-5 : goal.bounds-index-at-5
bounds-index-at-5 c = simp length-set (omega arith)

pub bounds-index-bucket-2 : goal.bounds-index-bucket-2
bounds-index-bucket-2 c = simp length-set (omega arith)

pub bounds-index-1024-2 : goal.bounds-index-1024-2
bounds-index-1024-2 c = simp length-set (omega arith)

pub bounds-index-1025-2 : goal.bounds-index-1025-2
bounds-index-1025-2 c = simp length-set (omega arith)

pub shape_of-index : goal.shape_of-index
shape_of-index c = simp length-set

pub returns : goal.returns
unfolding followed
returns c = refl
