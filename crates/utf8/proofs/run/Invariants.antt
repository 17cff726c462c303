-- `utf8::run` meets its contract. The invariant: the bytes behind those that were seen decide.
use Rattle.std.proofs.Common.{◌≡◌, drop}
use Rattle.rules.specs.Utf8.{well_formed}
use Rattle.utf8.proofs.run.Given as goal

abbrev pub invariant-loop-j : goal.invariant-loop-j
invariant-loop-j l = well_formed (drop l.j l.bytes) ≡ well_formed (drop l.i l.bytes)
