-- `row_meanings::is_unsettled` meets its contract.
use mathlib.Core.Path.{sym, ◌∙◌}
use Rattle.row_meanings.proofs.Tests.{unsettled-element, unsettled-attribute, unsettled-other}
use Rattle.row_meanings.proofs.is_unsettled.Goals as goal

pub returns-then-kind-eq-ELEMENT : goal.returns-then-kind-eq-ELEMENT
returns-then-kind-eq-ELEMENT c =
    unsettled-element c.args.table.now c.args.row.0 c.kind.ensures c.args.notes.now c.args.tops.now c.args.path.now c.args.flags.now (sym c.is_named.ensures ∙ c.if-is_named.true) c.if-kind-eq-ELEMENT.true c.element_settled.ensures

pub returns-then-is_named : goal.returns-then-is_named
returns-then-is_named c =
    unsettled-attribute c.args.table.now c.args.row.0 c.kind.ensures c.args.notes.now c.args.tops.now c.args.path.now c.args.flags.now (sym c.is_named.ensures ∙ c.if-is_named.true) c.if-kind-eq-ELEMENT.false c.attribute_settled.ensures

pub returns : goal.returns
returns c =
    unsettled-other c.args.table.now c.args.row.0 c.args.notes.now c.args.tops.now c.args.path.now c.args.flags.now (sym c.is_named.ensures ∙ c.if-is_named.false)
