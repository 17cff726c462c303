-- `old_rows::read_row` meets its contract.
use Rattle.old_rows.proofs.Rows.{row_read}
use Rattle.old_rows.proofs.read_row.Goals as goal

pub returns : goal.returns
returns c =
    row_read c.args.table.now c.args.bytes.now
    c.word.ensures
    c.word-2.ensures
    c.word-3.ensures
    c.word-4.ensures
    c.word-5.ensures
    c.word-6.ensures
    c.word-7.ensures
    c.word-8.ensures
    c.word-9.ensures
    c.word-10.ensures
    c.copy_words.ensures
