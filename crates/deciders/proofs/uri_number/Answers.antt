-- `deciders::uri_number` meets its contract.
use native.Mathlib.Omega.{arith}
use mathlib.Core.Path.{sym, ◌∙◌}
use borrow.Author.Tests.{ltb-true}
use Rattle.rules.specs.Table.{row_count}
use Rattle.deciders.proofs.Decided.{number-missing, number-value, number-uri}
use Rattle.deciders.proofs.uri_number.Goals as goal

pub kind-requires : goal.kind-requires
kind-requires c = ltb-true _ _ (sym c.has_row.ensures ∙ c.if-has_row.true)

pub name-requires : goal.name-requires
name-requires c =
    let within = ltb-true c.args.row.0 (row_count c.args.table.now) (sym c.has_row.ensures ∙ c.if-has_row.true) in
    omega (arith, within, c.requires)

pub returns-then-kind-eq-DECLARATION : goal.returns-then-kind-eq-DECLARATION
returns-then-kind-eq-DECLARATION c =
    c.name.ensures
    ∙ number-value c.args.table.now c.args.notes.now c.args.row.0 (sym c.has_row.ensures ∙ c.if-has_row.true) _ c.kind.ensures c.if-kind-eq-DECLARATION.true

pub name-requires-then-has_row : goal.name-requires-then-has_row
name-requires-then-has_row c =
    let within = ltb-true c.args.row.0 (row_count c.args.table.now) (sym c.has_row.ensures ∙ c.if-has_row.true) in
    omega (arith, within, c.requires)

pub returns-then-has_row : goal.returns-then-has_row
returns-then-has_row c =
    c.name-then-has_row.ensures
    ∙ number-uri c.args.table.now c.args.notes.now c.args.row.0 (sym c.has_row.ensures ∙ c.if-has_row.true) _ c.kind.ensures c.if-kind-eq-DECLARATION.false

pub returns : goal.returns
returns c = number-missing c.args.table.now c.args.notes.now c.args.row.0 (sym c.has_row.ensures ∙ c.if-has_row.false)
