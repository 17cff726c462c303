-- `built_ins::is_xmlns_uri` meets its contract: the definition computes to the bytes written out.
use Rattle.rules.specs.Table.{xmlns_uri}
use Rattle.built_ins.proofs.is_xmlns_uri.Goals as goal

pub returns : goal.returns
unfolding xmlns_uri
returns c = c.same_short.ensures
