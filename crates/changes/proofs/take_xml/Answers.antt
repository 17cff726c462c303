-- `changes::take_xml` meets its contract.
use Rattle.changes.proofs.Writes.{named-xml}
use Rattle.changes.proofs.take_xml.Goals as goal

pub returns : goal.returns
returns c = named-xml _ _ _ _ _ _ c.append_bytes.ensures c.set_place.ensures c.xml.ensures c.set_name.ensures
