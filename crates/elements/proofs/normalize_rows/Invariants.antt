-- `elements::normalize_rows` meets its contract.
use Rattle.elements.proofs.Pass.{Passing}
use Rattle.elements.proofs.normalize_rows.Given as goal

abbrev pub invariant-loop-r : goal.invariant-loop-r
invariant-loop-r l = Passing l.total l.limit l.initial.table l.initial.pool l.initial.notes l.initial.tops l.initial.path l.initial.bytes l.table l.pool l.notes l.tops l.path l.rows l.bytes l.names l.position l.r
