use Rattle.std.proofs.Common.{◌≡◌, ℕ, ◌+◌, ◌*◌, ◌≤◌, ◌<◌, length, take, ap, ◌∙◌, arith}
use Rattle.keyed.specs.Keyed.{sum_from}
use Rattle.keyed.proofs.Sums.{sum_lt}
use Rattle.sum_tables.specs.SumTables.{Row}
use Rattle.sum_tables.proofs.Rows.{length-row, rows_next, sum-none, sum-block, block-is}
use Rattle.sum_tables.proofs.make.Goals as goal

pub loop-k-init : goal.loop-k-init
loop-k-init c =
    let t = c.args.table.now in
    let pool = c.args.pool.now in
    let b1 = c.args.bases.one in
    let b2 = c.args.bases.two in
    let rows : (m : ℕ) → m ≤ 0 → Row pool b1 b2 c.put_row.new.table m =
    rw c.put_row.ensures
    (rows_next t 0 0 0 c.requires.0 (omega arith) pool b1 b2 (λ m l. absurd (omega arith)) (sum-none b1 pool) (sum-none b2 pool)) in
    record {
      room = rw (c.put_row.ensures, length-row t 0 0 0 c.requires.0 (omega arith)) c.requires.0;
      bounds = (omega arith, omega arith);
      one = sum-none b1 pool;
      two = sum-none b2 pool;
      rows = rows;
    }

pub loop-k-preserved : goal.loop-k-preserved
loop-k-preserved c =
    let pool = c.args.pool.now in
    let b1 = c.args.bases.one in
    let b2 = c.args.bases.two in
    let k = c.loop-k.k in
    let sums = c.summed-sums.result in
    let h : k + 1 < 513 = omega arith in
    let block = block-is pool k c.as_chunks.ensures.front (omega arith) in
    let s1 = sum-block b1 pool k c.loop-k.sums.one sums.one c.loop-k.invariant.one (c.summed-sums.ensures.one_value ∙ ap (sum_from b1 c.loop-k.sums.one) block) in
    let s2 = sum-block b2 pool k c.loop-k.sums.two sums.two c.loop-k.invariant.two (c.summed-sums.ensures.two_value ∙ ap (sum_from b2 c.loop-k.sums.two) block) in
    let n : length c.put_row-in-loop-k.new.table ≡ length c.loop-k.table =
    ap length c.put_row-in-loop-k.ensures ∙ length-row c.loop-k.table (k + 1) sums.one sums.two c.loop-k.invariant.room h in
    let rows : (m : ℕ) → m ≤ k + 1 → Row pool b1 b2 c.put_row-in-loop-k.new.table m =
    rw c.put_row-in-loop-k.ensures
    (rows_next c.loop-k.table (k + 1) sums.one sums.two c.loop-k.invariant.room h pool b1 b2 (λ m t. c.loop-k.invariant.rows m (omega arith)) s1 s2) in
    let r1 = sum_lt b1 0 (take (64 * (k + 1)) pool) (omega arith) in
    let r2 = sum_lt b2 0 (take (64 * (k + 1)) pool) (omega arith) in
    record { room = rw n c.loop-k.invariant.room; bounds = (omega arith, omega arith); one = s1; two = s2; rows = rows }

pub returns : goal.returns
returns c =
    record {
      filled = λ k h. c.loop-k.invariant.rows k (omega arith);
      table_len_unchanged = c.loop-k.auto.table ∙ ap length c.put_row.ensures ∙ length-row c.args.table.now 0 0 0 c.requires.0 (omega arith);
    }
