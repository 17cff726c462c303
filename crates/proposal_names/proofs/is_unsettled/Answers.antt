-- `is_unsettled` meets its contract.
use borrow.Author.Tests.{eq-eqb, ne_eqb}
use Rattle.proposal_names.proofs.Names.{of-element, of-attribute, of_other}
use Rattle.proposal_names.proofs.is_unsettled.Goals as goal

pub returns-then-kind-eq-ELEMENT : goal.returns-then-kind-eq-ELEMENT
returns-then-kind-eq-ELEMENT c =
    of-element c.args.table.now c.args.notes.now c.args.tops.now c.args.path.now c.args.row.0 c.kind-kind.ensures (eq-eqb _ _ c.if-kind-eq-ELEMENT.true) c.element_settled.ensures

pub returns-then-kind-parent : goal.returns-then-kind-parent
returns-then-kind-parent c =
    of-attribute c.args.table.now c.args.notes.now c.args.tops.now c.args.path.now c.args.row.0 c.kind-kind.ensures (ne_eqb _ _ c.if-kind-eq-ELEMENT.false) c.parent.ensures c.if-kind-parent.true c.attribute_settled.ensures

pub returns : goal.returns
returns c =
    of_other c.args.table.now c.args.notes.now c.args.tops.now c.args.path.now c.args.row.0 c.kind-kind.ensures (ne_eqb _ _ c.if-kind-eq-ELEMENT.false) c.parent.ensures c.if-kind-parent.false
