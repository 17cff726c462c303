-- `enter_all` meets its contract.
use Rattle.std.proofs.Common.{◌+◌, ◌-◌, ◌≤◌}
use Rattle.dictionary.specs.Dictionary.{spelling}
use Rattle.ns_names.specs.Records.{Entered}
use Rattle.ns_names.proofs.enter_all.Given as goal

abbrev pub invariant-loop-n : goal.invariant-loop-n
invariant-loop-n l = record { next : l.n ≤ l.last + 1; entered : Entered (spelling l.dictionary l.pool) (l.n - 1) l.initial.records l.records }
