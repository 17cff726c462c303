-- `empty::must_be_empty` meets its contract.
use Rattle.single_fields.proofs.Single.{must-be-empty}
use Rattle.single_fields.proofs.empty.must_be_empty.Goals as goal

pub returns : goal.returns
returns c =
    let a = c.args in
    must-be-empty a.kind a.word c.is_level1.ensures c.is_element.ensures
