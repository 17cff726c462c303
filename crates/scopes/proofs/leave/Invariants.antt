-- `scopes::leave` meets its contract. The invariant: as many positions are left as there are declarations up to `at`.
use mathlib.Core.Path.{◌≡◌}
use lib.ListN.{length}
use Rattle.stacks.specs.Stacks.{Untouched}
use Rattle.scopes.proofs.Moving.{Leaving}
use Rattle.scopes.proofs.leave.Given as goal

abbrev pub invariant-loop-at : goal.invariant-loop-at
invariant-loop-at l = Leaving l.table l.notes l.here l.tops l.path l.at × (length l.tops ≡ length l.initial.tops) × (length l.path ≡ length l.initial.path) × Untouched l.initial.path l.path

abbrev pub decreases-loop-at : goal.decreases-loop-at
decreases-loop-at l = l.at
