-- `made_in_outputs::normalize_accepted` meets its contract.
use Prim.Native.Nat.{ℕ}
use mathlib.Core.Path.{refl}
use lib.ListN.{length, length-replicate}
use Rattle.normal_form.specs.Lent.{WORK}
use Rattle.normal_form.proofs.Outcome.{outcome-ended}
use Rattle.normal_form.proofs.Start.{enough-read, topped-read}
use Rattle.made_in_outputs.proofs.normalize_accepted.Goals as goal

pub normalize_into-made-requires : goal.normalize_into-made-requires
normalize_into-made-requires c =
    record { count = c.row_count.ensures; held = refl; limited = c.row_limit-limit.ensures; size = length-replicate {A = ℕ} WORK 0; enough = enough-read c.row_count.ensures c.requires.enough; topped = topped-read c.row_count.ensures c.requires.topped; prepared = c.requires.prepared }

pub finish-requires : goal.finish-requires
finish-requires c = λ fits. (c.normalize_into-made.ensures.table_room fits, c.normalize_into-made.ensures.pool_room fits)

pub returns : goal.returns
returns c =
    let all = outcome-ended c.args.table.now c.args.pool.now c.requires.prepared.input _ c.row_limit-limit.ensures (length c.args.out_pool.now) c.normalize_into-made.ensures c.normalize_into-made.auto.out_table (c.finish.ensures.value, (c.finish.ensures.out_table_after, c.finish.ensures.out_pool_after)) in record { value = all.0; out_table_after = all.1.0; out_pool_after = all.1.1 }
