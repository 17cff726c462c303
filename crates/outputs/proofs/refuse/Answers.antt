-- `outputs::refuse` meets its contract.
use Rattle.outputs.proofs.Ended.{refuses}
use Rattle.outputs.proofs.refuse.Goals as goal

pub returns : goal.returns
returns c =
    let all = refuses c.args.out_table.now c.args.out_pool.now _ c.clear_words.ensures c.clear_bytes.ensures in record { value = all.0; out_table_after = all.1.0; out_pool_after = all.1.1 }
