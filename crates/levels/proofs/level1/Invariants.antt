-- `levels::level1` meets its contract. The invariant: the rows that are left decide.
use Prim.Native.Nat.{ℕ}
use mathlib.Core.List.{List}
use Rattle.levels.proofs.Scan.{Scanning}
use Rattle.levels.proofs.level1.Given as goal

abbrev pub invariant-loop-r : goal.invariant-loop-r
invariant-loop-r l = (pool : List ℕ) → Scanning l.table pool l.r
