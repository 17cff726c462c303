-- `run_lengths::measure_runs` meets its contract. The invariant: the lengths from byte i on are stored.
use Rattle.run_lengths.proofs.Lengths.{Stored}
use Rattle.run_lengths.proofs.measure_runs.Given as goal

abbrev pub invariant-loop-i : goal.invariant-loop-i
invariant-loop-i l = Stored l.bytes l.initial.runs l.runs l.i l.text l.quoted
