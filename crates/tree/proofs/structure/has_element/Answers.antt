-- `structure::has_element` meets its contract.
use Rattle.std.proofs.Common.{rules, tests, ◌∙◌, arith}
use Rattle.std.proofs.lemmas.Iterator.{YieldsList-from_range}
use Rattle.std.proofs.lemmas.Iterator.Search.{any_from_yields_List}
use Rattle.tree.specs.Earlier.{under}
use Rattle.tree.proofs.Earlier.{any-range}
use Rattle.tree.proofs.structure.has_element.Goals as goal

pub returns : goal.returns
returns c =
    let test = under c.args.table.now c.args.parent.0 in
    any_from_yields_List test _ _ _ c.any.ensures.ran
    (YieldsList-from_range 0 c.args.row.0 c.args.row.0 (cc) (omega arith))
    (λ x b q k. search (rules, tests))
    ∙ any-range test c.args.row.0
