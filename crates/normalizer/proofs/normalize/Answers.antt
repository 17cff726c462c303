-- `normalizer::normalize` meets its contract.
use Rattle.std.proofs.Common.{arith}
use Rattle.rules.specs.Table.{MOST_ROWS, row_count}
use Rattle.table_size.specs.Small.{FEW_ROWS}
use Rattle.input.proofs.Numbered.{blank-small, blank-any, zeros-numbering}
use Rattle.normal_form.proofs.Start.{topped-small, topped-any}
use Rattle.normalizer.proofs.normalize.Goals as goal

pub normalize_in-requires : goal.normalize_in-requires
normalize_in-requires c =
    let blank = blank-any (row_count c.args.table.now) in record { dictionary_size = omega arith; note_size = omega arith; path_size = omega arith; top_size = omega arith; blank = blank; numbering = zeros-numbering c.args.table.now _ _ MOST_ROWS (λ few. few) blank; topped = topped-any (row_count c.args.table.now) }

pub normalize_in-requires-2 : goal.normalize_in-requires-2
normalize_in-requires-2 c =
    let few = c.has_many_rows.ensures c.if-has_many_rows.false in
    let blank = blank-small (row_count c.args.table.now) few in record { dictionary_size = omega arith; note_size = omega arith; path_size = omega arith; top_size = omega arith; blank = blank; numbering = zeros-numbering c.args.table.now _ _ FEW_ROWS (λ _. few) blank; topped = topped-small (row_count c.args.table.now) few }
