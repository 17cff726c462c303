-- `mix_long` meets its contract.
use Rattle.std.proofs.Common.{◌≡◌, ◌-◌, ◌/◌, length}
use Rattle.hash.specs.Hash.{mixed_down}
use Rattle.hash.proofs.mix_long.Given as goal

abbrev pub invariant-loop-k : goal.invariant-loop-k
invariant-loop-k l = mixed_down l.name l.k l.h ≡ mixed_down l.name ((length l.name - 1) / 8) l.initial.h
