-- `scopes::enter` meets its contract. The invariant: the declarations after `at` are pushed.
use mathlib.Core.Path.{◌≡◌}
use lib.ListN.{length}
use Rattle.stacks.specs.Stacks.{Untouched}
use Rattle.scopes.proofs.Moving.{Entering}
use Rattle.scopes.proofs.enter.Given as goal

abbrev pub invariant-loop-at : goal.invariant-loop-at
invariant-loop-at l = Entering l.table l.notes l.here l.tops l.path l.at × (length l.tops ≡ length l.initial.tops) × (length l.path ≡ length l.initial.path) × Untouched l.initial.path l.path

abbrev pub decreases-loop-at : goal.decreases-loop-at
decreases-loop-at l = l.at
