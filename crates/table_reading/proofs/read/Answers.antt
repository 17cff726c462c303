-- `table_reading::read` meets its contract.
use lib.ListN.{length}
use mathlib.Core.Path.{sym, ◌∙◌}
use native.Mathlib.Omega.{arith}
use Rattle.table_reading.proofs.Copied.{Fits, fits, read-refused, read_done}
use Rattle.table_reading.proofs.read.Goals as goal

pub copy_words-requires : goal.copy_words-requires
copy_words-requires c =
    let fact : Fits c.args.table.now c.args.pool.now (length c.args.out_table.now) (length c.args.out_pool.now) = fits _ _ _ _ (sym c.judge_read.ensures ∙ c.in-Ok.is) in
    fact.words

pub clear_words-requires : goal.clear_words-requires
clear_words-requires c =
    let fact : Fits c.args.table.now c.args.pool.now (length c.args.out_table.now) (length c.args.out_pool.now) = fits _ _ _ _ (sym c.judge_read.ensures ∙ c.in-Ok.is) in
    let whole = fact.whole in
    let room = fact.words in
    let long = c.copy_words.auto.table in
    omega arith

pub copy_bytes-requires : goal.copy_bytes-requires
copy_bytes-requires c =
    let fact : Fits c.args.table.now c.args.pool.now (length c.args.out_table.now) (length c.args.out_pool.now) = fits _ _ _ _ (sym c.judge_read.ensures ∙ c.in-Ok.is) in
    fact.bytes

pub clear_bytes-requires : goal.clear_bytes-requires
clear_bytes-requires c =
    let fact : Fits c.args.table.now c.args.pool.now (length c.args.out_table.now) (length c.args.out_pool.now) = fits _ _ _ _ (sym c.judge_read.ensures ∙ c.in-Ok.is) in
    rw c.copy_bytes.auto.pool fact.bytes

pub returns-in-Ok : goal.returns-in-Ok
returns-in-Ok c =
    let fact : Fits c.args.table.now c.args.pool.now (length c.args.out_table.now) (length c.args.out_pool.now) = fits _ _ _ _ (sym c.judge_read.ensures ∙ c.in-Ok.is) in
    let all = read_done _ _ _ _ fact c.row_count-rows.result c.row_count-rows.ensures c.copy_words.ensures c.clear_words.ensures c.copy_bytes.ensures c.clear_bytes.ensures in record { value = all.0; out_table_after = all.1.0; out_pool_after = all.1.1 }

pub returns-in-Err : goal.returns-in-Err
returns-in-Err c =
    let all = read-refused c.args.table.now c.args.pool.now c.args.out_table.now c.args.out_pool.now _ (sym c.judge_read.ensures ∙ c.in-Err.is) (c.refuse.ensures.value, (c.refuse.ensures.out_table_after, c.refuse.ensures.out_pool_after)) in record { value = all.0; out_table_after = all.1.0; out_pool_after = all.1.1 }
