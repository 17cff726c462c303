-- `built_ins::is_xml` meets its contract: the definition computes to the bytes written out.
use Rattle.rules.specs.Table.{xml_prefix}
use Rattle.built_ins.proofs.is_xml.Goals as goal

pub returns : goal.returns
unfolding xml_prefix
returns c = c.same_short.ensures
