-- `tags::put_start_tag` meets its contract.
use Rattle.rules.specs.Table.{nodes, node_at}
use Rattle.markup.specs.Trees.{qualified_name, written_attributes}
use Rattle.tags.proofs.Pieces.{start-put}
use Rattle.tags.proofs.put_start_tag.Goals as goal

pub put_row_name-owned-requires : goal.put_row_name-owned-requires
put_row_name-owned-requires c = record { row_bound = c.requires.row_bound; pooled = c.requires.pooled }

pub put_owned-end-requires : goal.put_owned-end-requires
put_owned-end-requires c =
    record { linked = c.requires.linked; row_bound = c.requires.row_bound; marked = c.requires.marked; pooled = c.requires.pooled }

pub returns : goal.returns
returns c =
    let n = qualified_name (node_at c.args.table.now c.args.pool.now c.args.row.0) in
    let owned = written_attributes (nodes c.args.table.now c.args.pool.now) c.args.row.0 in
    start-put n owned c.put_bytes-name.ensures c.put_row_name-owned.ensures c.put_owned-end.ensures c.put_bytes.ensures
