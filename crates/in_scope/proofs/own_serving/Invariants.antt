-- `in_scope::own_serving` meets its contract. The invariant: what the walk finds from here on, or else what it has found, is
-- what there is to find.
use Prim.Native.Nat.{ℕ}
use mathlib.Core.Bool.{false}
use mathlib.Core.List.{List}
use mathlib.Core.Path.{◌≡◌}
use Rattle.rules.specs.Lists.{same_bytes}
use Rattle.rules.specs.Table.{xml_uri, nodes}
use Rattle.rules.specs.Lookups.{scope_of, serves}
use Rattle.scopes.proofs.Own.{Reached}
use Rattle.declarations.specs.Meant.{Meant}
use Rattle.declarations.proofs.Walking.{Walking}
use Rattle.in_scope.proofs.own_serving.Given as goal

abbrev pub invariant-loop-at : goal.invariant-loop-at
invariant-loop-at l =
    Reached l.table l.e l.at
    × ((pool name : List ℕ) → Meant l.table pool l.notes l.wanted name → same_bytes name xml_uri ≡ false → Walking l.table pool l.e (serves (scope_of (nodes l.table pool) l.path) name) l.at l.first)

abbrev pub decreases-loop-at : goal.decreases-loop-at
decreases-loop-at l = l.at
