-- `markup_names::put_declaration_name` meets its contract.
use Rattle.markup_names.proofs.Names.{default-put, declared-put}
use Rattle.markup_names.proofs.put_declaration_name.Goals as goal

pub returns-then-prefix-eq0 : goal.returns-then-prefix-eq0
returns-then-prefix-eq0 c = default-put _ c.if-prefix-eq0.true c.put_name.ensures

pub returns : goal.returns
returns c = declared-put _ c.if-prefix-eq0.false c.put_name-2.ensures
