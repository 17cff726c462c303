-- `bindings::value_of` meets its contract.
use Rattle.bindings.proofs.Asking.{value_none, value_read}
use Rattle.bindings.proofs.value_of.Goals as goal

pub returns-then-position-eq0 : goal.returns-then-position-eq0
returns-then-position-eq0 c = value_none _ c.if-position-eq0.true

pub returns : goal.returns
returns c = value_read _ c.if-position-eq0.false c.name_at.ensures
