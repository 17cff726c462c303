-- `begin` meets its contract.
use mathlib.Core.Path.{refl}
use native.Mathlib.Omega.{arith}
use lib.ListN.{length-set}
use Rattle.tables.specs.Tables.{begun}
use Rattle.table_filling.proofs.begin.Goals as goal

pub bounds-tables-1 : goal.bounds-tables-1
bounds-tables-1 c = simp length-set (omega arith)

pub bounds-tables : goal.bounds-tables
bounds-tables c = simp length-set (omega arith)

pub bounds-tables-3 : goal.bounds-tables-3
bounds-tables-3 c = simp length-set (omega arith)

pub bounds-tables-2 : goal.bounds-tables-2
bounds-tables-2 c = simp length-set (omega arith)

pub returns : goal.returns
unfolding begun
returns c = refl
