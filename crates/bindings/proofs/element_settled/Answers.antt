-- `bindings::element_settled` meets its contract.
use Rattle.bindings.proofs.Asking.{top-room, settled-read}
use Rattle.bindings.proofs.element_settled.Goals as goal

pub value_of-value-requires : goal.value_of-value-requires
value_of-value-requires c = top-room c.requires c.name-prefix.ensures c.nearest.ensures

pub returns : goal.returns
returns c =
    settled-read _ _ _ _ c.name-prefix.ensures c.nearest.ensures c.value_of-value.ensures c.name-uri.ensures c.xml.ensures
