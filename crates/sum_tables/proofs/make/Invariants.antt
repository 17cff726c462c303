-- `sum_tables::make` meets its contract. The invariant: the rows up to k are right, and row k is at hand.
use Rattle.std.proofs.Common.{◌≡◌, ℕ, ◌*◌, ◌≤◌, ◌<◌, length, take}
use Rattle.keyed.specs.Keyed.{PRIME, sum_from}
use Rattle.sum_tables.specs.SumTables.{WORDS, Row}
use Rattle.sum_tables.proofs.make.Given as goal

abbrev pub invariant-loop-k : goal.invariant-loop-k
invariant-loop-k l =
    record {
      room : WORDS ≤ length l.table;
      bounds : (l.sums.one < PRIME) × (l.sums.two < PRIME);
      one : l.sums.one ≡ sum_from l.bases.one 0 (take (64 * l.k) l.pool);
      two : l.sums.two ≡ sum_from l.bases.two 0 (take (64 * l.k) l.pool);
      rows : (m : ℕ) → m ≤ l.k → Row l.pool l.bases.one l.bases.two l.table m;
    }
