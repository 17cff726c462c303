-- `declarations::value_of` meets its contract.
use mathlib.Core.Path.{sym, ◌∙◌}
use native.Mathlib.Omega.{arith}
use borrow.Author.Tests.{ltb-true}
use Rattle.rules.specs.Table.{row_count}
use Rattle.declarations.proofs.Served.{value-here, value-missing}
use Rattle.declarations.proofs.value_of.Goals as goal

pub name-requires : goal.name-requires
name-requires c =
    let within = ltb-true c.args.declaration.0 (row_count c.args.table.now) (sym c.has_row.ensures ∙ c.if-has_row.true) in
    omega (arith, within, c.requires)

pub returns-then-has_row : goal.returns-then-has_row
returns-then-has_row c =
    c.name.ensures ∙ value-here c.args.table.now c.args.notes.now c.args.declaration.0 (sym c.has_row.ensures ∙ c.if-has_row.true)

pub returns : goal.returns
returns c =
    value-missing c.args.table.now c.args.notes.now c.args.declaration.0 (sym c.has_row.ensures ∙ c.if-has_row.false)
