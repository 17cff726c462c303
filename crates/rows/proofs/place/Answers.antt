-- `rows::place` meets its contract.
use mathlib.Core.List.{[]}
use Rattle.rows.proofs.Words.{field-place}
use Rattle.rows.proofs.place.Goals as goal

pub returns : goal.returns
returns c =
    field-place c.args.table.now [] c.args.row.0 c.args.field c.word.result c.word-length.result c.word.ensures c.word-length.ensures
