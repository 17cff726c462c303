-- `built_ins::is_xmlns` meets its contract: the definition computes to the bytes written out.
use Rattle.rules.specs.Table.{xmlns_prefix}
use Rattle.built_ins.proofs.is_xmlns.Goals as goal

pub returns : goal.returns
unfolding xmlns_prefix
returns c = c.same_short.ensures
