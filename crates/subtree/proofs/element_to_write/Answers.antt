-- `subtree::element_to_write` meets its contract.
use Rattle.subtree.proofs.Start.{to-self, to-child, to_none}
use Rattle.subtree.proofs.element_to_write.Goals as goal

pub returns-then-is_element : goal.returns-then-is_element
returns-then-is_element c =
    λ pool. to-self c.args.table.now pool c.args.row.0 c.requires.0 c.kind-kind.result c.kind-kind.ensures c.is_element.result c.is_element.ensures c.if-is_element.true

pub returns-then-kind-eq-DOCUMENT : goal.returns-then-kind-eq-DOCUMENT
returns-then-kind-eq-DOCUMENT c =
    λ pool. to-child c.args.table.now pool c.args.row.0 c.requires.0 c.kind-kind.result c.kind-kind.ensures c.is_element.result c.is_element.ensures c.if-is_element.false c.if-kind-eq-DOCUMENT.true (c.element_child.ensures pool)

pub returns : goal.returns
returns c =
    λ pool. to_none c.args.table.now pool c.args.row.0 c.requires.0 c.kind-kind.result c.kind-kind.ensures c.is_element.result c.is_element.ensures c.if-is_element.false c.if-kind-eq-DOCUMENT.false
