-- `plain_kind` meets its contract.
use mathlib.Core.Path.{sym, ◌∙◌}
use Rattle.kinds.proofs.PlainNames.{plain-xml, plain-xmlns, plain-good}
use Rattle.kinds.proofs.plain_kind.Goals as goal

pub returns-then-is_xml : goal.returns-then-is_xml
returns-then-is_xml c = plain-xml c.args.name.now c.requires (sym c.is_xml.ensures ∙ c.if-is_xml.true)

pub returns-then-is_xmlns : goal.returns-then-is_xmlns
returns-then-is_xmlns c =
    plain-xmlns c.args.name.now c.requires (sym c.is_xml.ensures ∙ c.if-is_xml.false) (sym c.is_xmlns.ensures ∙ c.if-is_xmlns.true)

pub returns : goal.returns
returns c =
    plain-good c.args.name.now c.requires (sym c.is_xml.ensures ∙ c.if-is_xml.false) (sym c.is_xmlns.ensures ∙ c.if-is_xmlns.false)
