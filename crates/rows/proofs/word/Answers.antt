-- `rows::word` meets its contract.
use Rattle.rows.proofs.Words.{word_at}
use Rattle.rows.proofs.word.Goals as goal

pub returns : goal.returns
returns c =
    let row = c.wide in
    let k = c.wide-2 in
    word_at c.args.table.now c.args.row.0 c.args.k row.result k.result row.ensures k.ensures
