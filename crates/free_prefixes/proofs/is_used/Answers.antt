-- `free_prefixes::is_used` meets its contract.
use Rattle.bindings.proofs.Asking.{used-none, used-top}
use Rattle.free_prefixes.proofs.is_used.Goals as goal

pub returns-then-number-eq0 : goal.returns-then-number-eq0
returns-then-number-eq0 c = used-none _ _ _ c.numbered-number.ensures c.if-number-eq0.true

pub returns : goal.returns
returns c = used-top _ _ _ c.numbered-number.ensures c.if-number-eq0.false c.nearest.ensures
