-- `ancestors::element_child` meets its contract.
use Rattle.std.proofs.Common.{rules, tests, sym, ◌∙◌, arith}
use Rattle.std.proofs.lemmas.Iterator.{YieldsList-from_range}
use Rattle.std.proofs.lemmas.Iterator.Adapters.{option_map_id}
use Rattle.std.proofs.lemmas.Iterator.Search.{find_from_yields_List}
use Rattle.rules.specs.Table.{row_count}
use Rattle.ancestors.proofs.StartElement.{is_element_child, child-found}
use Rattle.ancestors.proofs.element_child.Goals as goal

pub returns : goal.returns
returns c =
    λ pool. let table = c.args.table.now in
    let row = c.args.row.0 in
    let rows = row_count table in
    c.unwrap_or.ensures
    ∙ child-found table row pool c.find-child.result
    (sym (option_map_id c.find-child.result)
    ∙ find_from_yields_List (is_element_child table row) _ _ c.find-child.result c.find-child.ensures.ran
    (YieldsList-from_range 0 rows rows (cc) (omega arith))
    (λ x b q k. search (rules, tests)))
