-- `characters::holds_forbidden` meets its contract. The invariant: the bytes that are left decide.
use mathlib.Core.Path.{◌≡◌}
use lib.ListN.{drop}
use Rattle.characters.specs.Characters.{forbidden_from}
use Rattle.characters.proofs.holds_forbidden.Given as goal

abbrev pub invariant-loop-i : goal.invariant-loop-i
invariant-loop-i l = forbidden_from (drop l.i l.value) ≡ forbidden_from l.value
