-- `escaped_bytes::put_each` meets its contract.
use Prim.Native.Nat.{◌+◌}
use lib.ListN.{drop}
use Rattle.escapes.specs.Escapes.{escaped}
use Rattle.escaped_bytes.proofs.Left.{Left}
use Rattle.escaped_bytes.proofs.put_each.Given as goal

abbrev pub invariant-loop-b : goal.invariant-loop-b
invariant-loop-b l = Left l.quoted l.value (escaped l.quoted (drop l.from l.value)) l.initial.out l.at l.out l.to (l.from + l.b-index)
