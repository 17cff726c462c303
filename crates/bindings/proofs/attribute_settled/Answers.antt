-- `bindings::attribute_settled` meets its contract.
use Rattle.bindings.proofs.Asking.{settled-bare, settled-unprefixed, settled-named}
use Rattle.bindings.proofs.attribute_settled.Goals as goal

pub returns-then-name-eq0 : goal.returns-then-name-eq0
returns-then-name-eq0 c = settled-bare _ _ _ _ c.name.ensures c.if-name-eq0.true

pub returns-then-name-eq0-2 : goal.returns-then-name-eq0-2
returns-then-name-eq0-2 c = settled-unprefixed _ _ _ _ c.name.ensures c.if-name-eq0.false c.name-2.ensures c.if-name-eq0-2.true

pub returns : goal.returns
returns c =
    settled-named _ _ _ _ c.name.ensures c.if-name-eq0.false c.name-2.ensures c.if-name-eq0-2.false c.element_settled.ensures
