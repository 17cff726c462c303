-- `declarations::nearest` meets its contract. The invariant: what is left along the path is what there is to find.
use Prim.Native.Nat.{ℕ}
use mathlib.Core.List.{List}
use Rattle.rules.specs.Lookups.{declares}
use Rattle.declarations.specs.Meant.{Meant}
use Rattle.declarations.proofs.Path.{Searching}
use Rattle.declarations.proofs.nearest.Given as goal

abbrev pub invariant-loop-element : goal.invariant-loop-element
invariant-loop-element l = (pool name : List ℕ) → Meant l.table pool l.notes l.prefix.0 name → Searching l.table pool l.path (declares name) l.element-index
