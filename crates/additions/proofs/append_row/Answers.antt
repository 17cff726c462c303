-- `additions::append_row` meets its contract: the words are those of the new declaration.
use Rattle.additions.proofs.append_row.Goals as goal

pub returns : goal.returns
returns c = c.write_rows.ensures
