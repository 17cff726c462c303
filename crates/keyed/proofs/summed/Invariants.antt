-- `keyed::summed` meets its contract. The invariant: the bytes that are left decide.
use Rattle.std.proofs.Common.{◌≡◌, ◌*◌, ◌<◌, drop}
use Rattle.keyed.specs.Keyed.{PRIME, sum_from}
use Rattle.keyed.proofs.summed.Given as goal

abbrev pub invariant-loop-pair : goal.invariant-loop-pair
invariant-loop-pair l =
    record {
      one_bound : l.one < PRIME;
      two_bound : l.two < PRIME;
      one_left : sum_from l.base1 l.one (drop (2 * l.pair-index) l.bytes) ≡ sum_from l.base1 l.initial.one l.bytes;
      two_left : sum_from l.base2 l.two (drop (2 * l.pair-index) l.bytes) ≡ sum_from l.base2 l.initial.two l.bytes;
    }
