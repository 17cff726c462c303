-- `sum_tables::until` meets its contract.
use Prim.Native.Nat.{◌+◌, ◌*◌, ◌/◌}
use native.Mathlib.Omega.{arith}
use lib.ListN.{take}
use Rattle.sum_tables.specs.SumTables.{number_at}
use Rattle.keyed.proofs.Sums.{sum_lt, until-told}
use Rattle.sum_tables.proofs.until.Goals as goal

pub summed-requires : goal.summed-requires
summed-requires c =
    let k = c.args.end / 64 in
    let row = c.requires.filled k (omega arith) in
    let pool = c.args.pool.now in
    (rw (c.pair_at-from.ensures.0, row.sum1) (sum_lt c.args.bases.one 0 (take (64 * k) pool) (omega arith)), rw (c.pair_at-from.ensures.1, row.sum2) (sum_lt c.args.bases.two 0 (take (64 * k) pool) (omega arith)))

pub returns : goal.returns
returns c =
    let k = c.args.end / 64 in
    let row = c.requires.filled k (omega arith) in
    let pool = c.args.pool.now in record { one_value = until-told c.args.bases.one pool (64 * k) c.args.end (number_at c.args.table.now (4 * k)) c.pair_at-from.result.one c.summed.result.one (omega arith) c.pair_at-from.ensures.0 row.sum1 c.summed.ensures.one_value; two_value = until-told c.args.bases.two pool (64 * k) c.args.end (number_at c.args.table.now (4 * k + 2)) c.pair_at-from.result.two c.summed.result.two (omega arith) c.pair_at-from.ensures.1 row.sum2 c.summed.ensures.two_value }
