-- `outward::deciding` meets its contract. The invariant: what is left of the path gives what the whole path gives.
use Prim.Native.Nat.{ℕ}
use mathlib.Core.List.{List}
use Rattle.rules.specs.Table.{nodes}
use Rattle.declarations.specs.Meant.{Meant}
use Rattle.deciders.specs.Deciding.{Ordinary}
use Rattle.outward.proofs.Left.{Left, uri_lookup}
use Rattle.outward.proofs.deciding.Given as goal

abbrev pub invariant-loop-element : goal.invariant-loop-element
invariant-loop-element l = (pool name : List ℕ) → Meant l.table pool l.notes l.prefix.0 name → (ordinary : Ordinary name) → Left l.table pool l.path (uri_lookup (nodes l.table pool) name ordinary) l.element-index
