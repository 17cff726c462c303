-- `ways::descend` meets its contract. The invariants: the arrays stand at `at`, and the way leads from the position to go to outward to
-- the top; then they stand where the way leads to.
use Prim.Native.Nat.{ℕ, ◌≤◌}
use lib.ListN.{length}
use Rattle.stacks.specs.Stacks.{Untouched}
use Rattle.scopes.specs.Standing.{Standing}
use Rattle.ways.specs.Ways.{Leads}
use Rattle.ways.proofs.descend.Given as goal

abbrev pub invariant-loop-at : goal.invariant-loop-at
invariant-loop-at l = Standing l.table l.notes l.tops l.path l.at × (l.at ≤ l.top) × Leads l.table l.way l.n l.goal l.top × Untouched l.initial.path l.path

abbrev pub decreases-loop-at : goal.decreases-loop-at
decreases-loop-at l = l.top

abbrev pub invariant-loop-step : goal.invariant-loop-step
invariant-loop-step l =
    let left = l.step-iterator.iter.rest.now in
    (q : ℕ) × Leads l.table left (length left) l.goal q × Standing l.table l.notes l.tops l.path q × Untouched l.initial.path l.path
