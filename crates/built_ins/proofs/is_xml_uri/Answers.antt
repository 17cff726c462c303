-- `built_ins::is_xml_uri` meets its contract: the definition computes to the bytes written out.
use Rattle.rules.specs.Table.{xml_uri}
use Rattle.built_ins.proofs.is_xml_uri.Goals as goal

pub returns : goal.returns
unfolding xml_uri
returns c = c.same_short.ensures
