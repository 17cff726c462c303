-- `tags::put_end_tag` meets its contract.
use Rattle.rules.specs.Table.{node_at}
use Rattle.markup.specs.Trees.{qualified_name}
use Rattle.tags.proofs.Pieces.{end-put}
use Rattle.tags.proofs.put_end_tag.Goals as goal

pub returns : goal.returns
returns c =
    let n = node_at c.args.table.now c.args.pool.now c.args.row.0 in
    end-put (qualified_name n) c.put_bytes-name.ensures c.put_row_name-end.ensures c.put_bytes.ensures
