-- `uri_kind` meets its contract.
use Rattle.kinds.proofs.uri_kind.Goals as goal

pub returns-then-is_xml_uri : goal.returns-then-is_xml_uri
returns-then-is_xml_uri c = rw (← c.is_xml_uri.ensures, c.if-is_xml_uri.true)

pub returns-then-is_xmlns_uri : goal.returns-then-is_xmlns_uri
returns-then-is_xmlns_uri c = rw (← c.is_xml_uri.ensures, c.if-is_xml_uri.false, ← c.is_xmlns_uri.ensures, c.if-is_xmlns_uri.true)

pub returns : goal.returns
returns c = rw (← c.is_xml_uri.ensures, c.if-is_xml_uri.false, ← c.is_xmlns_uri.ensures, c.if-is_xmlns_uri.false)
