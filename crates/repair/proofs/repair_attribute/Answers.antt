-- `repair::repair_attribute` meets its contract.
use native.Mathlib.Omega.{arith}
use Rattle.changes.proofs.Writes.{count-part}
use Rattle.repair.proofs.Attributes.{attribute-asked, attribute-kept, attribute-fits, attribute-field, attribute-writes, attribute-xml, serving-asks, taken-rows, attribute-taken, attribute-unserved}
use Rattle.repair.proofs.repair_attribute.Goals as goal

pub attribute_settled-requires : goal.attribute_settled-requires
attribute_settled-requires c = attribute-asked c.requires.at_attribute

pub returns-then-attribute_settled : goal.returns-then-attribute_settled
returns-then-attribute_settled c = λ h. attribute-kept h c.attribute_settled.ensures c.if-attribute_settled.true

pub slice_bounds-words-end-2 : goal.slice_bounds-words-end-2
slice_bounds-words-end-2 c = count-part _ _ (attribute-fits c.requires.at_attribute).0

pub slice_bounds-field-end-2 : goal.slice_bounds-field-end-2
slice_bounds-field-end-2 c = count-part _ _ (attribute-fits c.requires.at_attribute).1

pub field-requires : goal.field-requires
field-requires c = attribute-field c.requires.at_attribute

pub take_xml-grown-requires : goal.take_xml-grown-requires
take_xml-grown-requires c =
    record { attribute_in_bounds = attribute-writes c.requires.at_attribute; bytes_in_bounds = c.requires.bytes_in_bounds }

pub returns-then-is_xml_uri : goal.returns-then-is_xml_uri
returns-then-is_xml_uri c =
    λ h. attribute-xml h c.attribute_settled.ensures c.if-attribute_settled.false c.field.ensures c.is_xml_uri.ensures c.if-is_xml_uri.true c.requires.bytes_in_bounds.0 c.take_xml-grown.ensures

pub name-uri-requires : goal.name-uri-requires
name-uri-requires c = omega (arith, (attribute-asked c.requires.at_attribute).row)

pub nearest-found-requires : goal.nearest-found-requires
nearest-found-requires c =
    let asks = serving-asks c.requires.at_attribute in record { held = asks.0; number_in_bounds = omega (arith, asks.1, c.name-uri.ensures) }

pub take_prefix-requires : goal.take_prefix-requires
take_prefix-requires c =
    let all = taken-rows c.requires.at_attribute c.attribute_settled.ensures c.if-attribute_settled.false c.field.ensures c.is_xml_uri.ensures c.if-is_xml_uri.false c.name-uri.ensures c.nearest-found.ensures c.if-found-gt0.true c.row_at.ensures in record { attribute_lt_rows = all.0; rows_in_bounds = all.1 }

pub returns-then-found-gt0 : goal.returns-then-found-gt0
returns-then-found-gt0 c =
    λ h. attribute-taken h c.attribute_settled.ensures c.if-attribute_settled.false c.field.ensures c.is_xml_uri.ensures c.if-is_xml_uri.false c.name-uri.ensures c.nearest-found.ensures c.if-found-gt0.true c.row_at.ensures c.take_prefix.ensures.table_after c.take_prefix.ensures.notes_after

pub declare_attribute-requires : goal.declare_attribute-requires
declare_attribute-requires c =
    attribute-unserved c.requires.at_attribute c.attribute_settled.ensures c.if-attribute_settled.false c.field.ensures c.is_xml_uri.ensures c.if-is_xml_uri.false c.name-uri.ensures c.nearest-found.ensures c.if-found-gt0.false c.requires.bytes_in_bounds

pub returns : goal.returns
returns c =
    λ h. c.declare_attribute.ensures (attribute-unserved h c.attribute_settled.ensures c.if-attribute_settled.false c.field.ensures c.is_xml_uri.ensures c.if-is_xml_uri.false c.name-uri.ensures c.nearest-found.ensures c.if-found-gt0.false c.requires.bytes_in_bounds)
