-- `escaped_bytes::write_each` meets its contract.
use lib.ListN.{drop}
use Rattle.escapes.specs.Escapes.{escaped}
use Rattle.escaped_bytes.proofs.Left.{Left}
use Rattle.escaped_bytes.proofs.write_each.Given as goal

abbrev pub invariant-loop-i : goal.invariant-loop-i
invariant-loop-i l = Left l.quoted l.value (escaped l.quoted (drop l.from l.value)) l.initial.out l.at l.out l.to l.i
