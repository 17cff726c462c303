-- `element_steps::normalize_element` meets its contract.
use Rattle.element_steps.proofs.Walk.{Walking, left}
use Rattle.element_steps.proofs.normalize_element.Given as goal

abbrev pub invariant-loop-position : goal.invariant-loop-position
invariant-loop-position l = Walking l.initial.table l.initial.pool l.initial.notes l.initial.tops l.initial.path l.initial.rows l.initial.bytes l.initial.names l.limit l.e l.table l.pool l.notes l.tops l.path l.rows l.bytes l.names l.free l.position

abbrev pub decreases-loop-position : goal.decreases-loop-position
decreases-loop-position l = left l.position
