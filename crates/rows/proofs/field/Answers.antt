-- `rows::field` meets its contract.
use mathlib.Core.Path.{◌∙◌}
use Rattle.rows.proofs.Words.{field-part}
use Rattle.rows.proofs.field.Goals as goal

pub returns : goal.returns
returns c =
    c.part.ensures.result_value
    ∙ field-part c.args.table.now c.args.pool.now c.args.row.0 c.args.field c.word.result
    c.word-2.result c.word.ensures c.word-2.ensures
