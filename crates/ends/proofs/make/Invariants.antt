-- `make` meets its contract. The invariant: the ends from block k on are right, and the last one is at hand.
use Rattle.std.proofs.Common.{◌*◌}
use Rattle.ends.specs.Ends.{BLOCK, Reach}
use Rattle.ends.proofs.Reaching.{EndedFrom}
use Rattle.ends.proofs.make.Given as goal

abbrev pub invariant-loop-k : goal.invariant-loop-k
invariant-loop-k l = record { last : Reach l.colons l.pool (BLOCK * l.k) l.end; later : EndedFrom l.colons l.pool l.ends l.k }
