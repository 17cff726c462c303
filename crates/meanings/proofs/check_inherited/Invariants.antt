-- `meanings::check_inherited` meets its contract.
use Prim.Native.Nat.{ℕ, ◌+◌, ◌<◌}
use mathlib.Core.Path.{◌≡◌}
use mathlib.Core.Bool.{true}
use mathlib.Core.List.{List}
use Rattle.rules.specs.Table.{row_count, nodes, node, is_element}
use Rattle.rules.specs.declared.Refusal.{Refusal}
use Rattle.scopes.specs.Standing.{Standing}
use Rattle.markup.specs.Writing.{is_inherited}
use Rattle.subtree.proofs.Scans.{Scanning}
use Rattle.unsettled.specs.Walkable.{Walkable}
use Rattle.meanings.proofs.check_inherited.Given as goal

abbrev pub invariant-loop-r : goal.invariant-loop-r
invariant-loop-r l =
    (pool path : List ℕ) → Walkable l.table pool l.notes l.tops path → Standing l.table l.notes l.tops path (l.e + 1) → l.e < row_count l.table → is_element (node (nodes l.table pool) l.e).type ≡ true
    → Scanning l.table pool (is_inherited (nodes l.table pool) l.e) Refusal.Inherited l.r
