-- `asks` meets its contract.
use borrow.Author.Tests.{eq-eqb, ne_eqb}
use Rattle.proposal_names.proofs.Names.{asks-element, asks-attribute, asks_nothing}
use Rattle.proposal_names.proofs.asks.Goals as goal

pub returns-then-row_kind-eq-ELEMENT : goal.returns-then-row_kind-eq-ELEMENT
returns-then-row_kind-eq-ELEMENT c =
    asks-element c.args.table.now c.args.notes.now c.args.row.0 c.kind-row_kind.ensures (eq-eqb _ _ c.if-row_kind-eq-ELEMENT.true)

pub returns-then-row_kind-parent : goal.returns-then-row_kind-parent
returns-then-row_kind-parent c =
    asks-attribute c.args.table.now c.args.notes.now c.args.row.0 c.kind-row_kind.ensures (ne_eqb _ _ c.if-row_kind-eq-ELEMENT.false) c.parent.ensures c.if-row_kind-parent.true c.name.ensures

pub returns : goal.returns
returns c =
    asks_nothing c.args.table.now c.args.notes.now c.args.row.0 c.kind-row_kind.ensures (ne_eqb _ _ c.if-row_kind-eq-ELEMENT.false) c.parent.ensures c.if-row_kind-parent.false
