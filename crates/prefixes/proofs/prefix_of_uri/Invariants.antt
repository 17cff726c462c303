-- `prefixes::prefix_of_uri` meets its contract. The invariant: what is left of the path gives what the whole path gives.
use Prim.Native.Nat.{ℕ}
use mathlib.Core.List.{List}
use Rattle.rules.specs.Table.{nodes}
use Rattle.declarations.specs.Meant.{Meant}
use Rattle.outward.proofs.Left.{Left, prefix_lookup}
use Rattle.prefixes.proofs.prefix_of_uri.Given as goal

abbrev pub invariant-loop-element : goal.invariant-loop-element
invariant-loop-element l = (pool : List ℕ) → Meant l.table pool l.notes l.number.0 l.uri → Left l.table pool l.path (prefix_lookup (nodes l.table pool) l.path l.uri) l.element-index
