-- `in_scope::serving` meets its contract. The invariant: what is left along the path is what there is to find.
use Prim.Native.Nat.{ℕ}
use mathlib.Core.Bool.{false}
use mathlib.Core.List.{List}
use mathlib.Core.Path.{◌≡◌}
use Rattle.rules.specs.Lists.{same_bytes}
use Rattle.rules.specs.Table.{xml_uri, nodes}
use Rattle.rules.specs.Lookups.{scope_of, serves}
use Rattle.declarations.specs.Meant.{Meant}
use Rattle.declarations.proofs.Path.{Searching}
use Rattle.in_scope.proofs.serving.Given as goal

abbrev pub invariant-loop-element : goal.invariant-loop-element
invariant-loop-element l = (pool name : List ℕ) → Meant l.table pool l.notes l.uri.0 name → same_bytes name xml_uri ≡ false → Searching l.table pool l.path (serves (scope_of (nodes l.table pool) l.path) name) l.element-index
