-- `tags::put_attribute` meets its contract.
use Rattle.rules.specs.Table.{node_at}
use Rattle.markup.specs.Trees.{written_attribute}
use Rattle.tags.proofs.Pieces.{attribute-put}
use Rattle.tags.proofs.put_attribute.Goals as goal

pub returns : goal.returns
returns c =
    let n = node_at c.args.table.now c.args.pool.now c.args.row.0 in
    attribute-put (written_attribute n) c.put_bytes-name.ensures c.put_attribute_name-equals.ensures c.put_bytes-quote.ensures c.put_quoted-end.ensures c.put_bytes.ensures
