-- `markup_names::put_name` meets its contract.
use Rattle.markup_names.proofs.Names.{local-put, name-put}
use Rattle.markup_names.proofs.put_name.Goals as goal

pub returns-then-prefix-eq0 : goal.returns-then-prefix-eq0
returns-then-prefix-eq0 c = local-put _ _ c.if-prefix-eq0.true c.put_bytes.ensures

pub returns : goal.returns
returns c = name-put _ _ c.if-prefix-eq0.false c.put_bytes-colon.ensures c.put_bytes-name.ensures c.put_bytes-2.ensures
