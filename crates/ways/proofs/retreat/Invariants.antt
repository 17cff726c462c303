-- `ways::retreat` meets its contract. The invariant: the arrays stand at `at`.
use Prim.Native.Nat.{◌≤◌}
use mathlib.Core.Path.{◌≡◌}
use lib.ListN.{length}
use Rattle.rules.specs.Table.{row_count}
use Rattle.stacks.specs.Stacks.{Untouched}
use Rattle.scopes.specs.Standing.{Standing}
use Rattle.ways.proofs.retreat.Given as goal

abbrev pub invariant-loop-at : goal.invariant-loop-at
invariant-loop-at l = Standing l.table l.notes l.tops l.path l.at × (l.at ≤ row_count l.table) × (length l.tops ≡ length l.initial.tops) × (length l.path ≡ length l.initial.path) × Untouched l.initial.path l.path

abbrev pub decreases-loop-at : goal.decreases-loop-at
decreases-loop-at l = l.at
