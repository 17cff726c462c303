-- `clean_parts::first_forbidden` meets its contract.
use Rattle.clean_parts.specs.Clean.{Clean}
use Rattle.clean_parts.proofs.first_forbidden.Given as goal

abbrev pub invariant-loop-i : goal.invariant-loop-i
invariant-loop-i l = Clean l.pool l.from l.i
