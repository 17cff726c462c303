-- `prefixes::own_giving` meets its contract. The invariant: what the walk finds from here on, or else what it has found, is
-- what there is to find.
use Prim.Native.Nat.{ℕ}
use mathlib.Core.List.{List}
use mathlib.Core.Path.{◌≡◌}
use Rattle.rules.specs.Lists.{same_bytes}
use Rattle.rules.specs.Table.{xml_uri, nodes}
use Rattle.rules.specs.Lookups.{gives_prefix}
use Rattle.scopes.proofs.Own.{Reached}
use Rattle.declarations.specs.Meant.{Meant}
use Rattle.declarations.proofs.Walking.{Walking}
use Rattle.prefixes.proofs.own_giving.Given as goal

abbrev pub invariant-loop-at : goal.invariant-loop-at
invariant-loop-at l =
    Reached l.table l.e l.at
    × ((pool name : List ℕ) → Meant l.table pool l.notes l.wanted name → l.xml ≡ same_bytes name xml_uri → Walking l.table pool l.e (gives_prefix (nodes l.table pool) l.path name) l.at l.first)

abbrev pub decreases-loop-at : goal.decreases-loop-at
decreases-loop-at l = l.at
