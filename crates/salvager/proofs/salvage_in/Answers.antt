-- `salvager::salvage_in` meets its contract.
use Rattle.std.proofs.Common.{sym, ◌∙◌}
use lib.ListN.{length-replicate}
use Rattle.salvager.proofs.salvage_in.Goals as goal

pub slice_bounds-finish-end : goal.slice_bounds-finish-end
slice_bounds-finish-end g c = sym (c.judge-decided.auto.fates ∙ length-replicate g.row.FATE_WORDS 0)

pub finish-requires : goal.finish-requires
finish-requires g c = record { pool = c.args.pool.now; that = c.judge-decided.ensures }

pub returns : goal.returns
returns g c =
    let pool = c.args.pool.now in
    record { value = c.finish.ensures.by_index pool c.judge-decided.ensures; out_table_after = c.finish.ensures.by_index_2 pool c.judge-decided.ensures; list_after = c.finish.ensures.by_index_3 pool c.judge-decided.ensures }
