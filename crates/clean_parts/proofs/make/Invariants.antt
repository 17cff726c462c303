-- `clean_parts::make` meets its contract.
use Prim.Native.Nat.{◌*◌, ◌≤◌}
use lib.ListN.{length}
use Rattle.clean_parts.specs.Clean.{BLOCK, Clean}
use Rattle.clean_parts.proofs.Parts.{ReachedTo}
use Rattle.clean_parts.proofs.make.Given as goal

abbrev pub invariant-loop-k : goal.invariant-loop-k
invariant-loop-k l = (l.reach ≤ length l.pool) × Clean l.pool (BLOCK * l.k) l.reach × ReachedTo l.pool l.reaches l.k
