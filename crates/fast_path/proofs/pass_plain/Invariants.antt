-- `pass_plain` meets its contract.
use Rattle.fast_path.proofs.Going.{Going}
use Rattle.fast_path.proofs.pass_plain.Given as goal

abbrev pub invariant-loop-r : goal.invariant-loop-r
invariant-loop-r l = Going l.table l.pool l.dictionary l.initial.notes l.initial.chains l.fn.from.0 l.notes l.chains l.r
