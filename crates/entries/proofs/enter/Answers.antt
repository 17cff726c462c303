-- `enter` meets its contract.
use mathlib.Core.Path.{refl}
use native.Mathlib.Omega.{arith}
use lib.ListN.{length-set}
use Rattle.entries.specs.Entries.{entered}
use Rattle.entries.proofs.enter.Goals as goal

pub bounds-entries-at-2 : goal.bounds-entries-at-2
bounds-entries-at-2 c = simp length-set (omega arith)

pub bounds-entries-at-3 : goal.bounds-entries-at-3
bounds-entries-at-3 c = simp length-set (omega arith)

pub bounds-entries-at-4 : goal.bounds-entries-at-4
bounds-entries-at-4 c = simp length-set (omega arith)

pub bounds-entries-at-5 : goal.bounds-entries-at-5
bounds-entries-at-5 c = simp length-set (omega arith)

pub bounds-entries-1025 : goal.bounds-entries-1025
bounds-entries-1025 c = simp length-set (omega arith)

pub bounds-entries-bucket-2 : goal.bounds-entries-bucket-2
bounds-entries-bucket-2 c = simp length-set (omega arith)

pub bounds-entries-1024-2 : goal.bounds-entries-1024-2
bounds-entries-1024-2 c = simp length-set (omega arith)

pub shape_of-entries : goal.shape_of-entries
shape_of-entries c = simp length-set

pub returns : goal.returns
unfolding entered
returns c = record { result_value = refl; entries_after = refl }
