-- `plain::is_plain` meets its contract.
use mathlib.Core.Path.{refl, sym, ◌∙◌}
use Rattle.rules.proofs.Lists.{true-not-false}
use Rattle.fields.proofs.Fitting.{plain-text, plain-attribute, plain-element}
use Rattle.fields.proofs.plain.is_plain.Goals as goal

pub returns-then-not-is_nameless : goal.returns-then-not-is_nameless
returns-then-not-is_nameless c = λ e. absurd (true-not-false e refl)

pub returns-then-kind-eq-TEXT : goal.returns-then-kind-eq-TEXT
returns-then-kind-eq-TEXT c =
    λ e. plain-text c.args.table.now c.args.pool.now c.args.row.0 c.kind-kind.ensures c.if-kind-eq-TEXT.true (c.is_nameless.ensures (c.if-not-is_nameless.false)) (c.fits.ensures e)

pub returns-then-not-names_fit : goal.returns-then-not-names_fit
returns-then-not-names_fit c = λ e. absurd (true-not-false e refl)

pub returns-then-kind-eq-ATTRIBUTE : goal.returns-then-kind-eq-ATTRIBUTE
returns-then-kind-eq-ATTRIBUTE c =
    λ e. plain-attribute c.args.table.now c.args.pool.now c.args.row.0 c.kind-kind.ensures c.if-kind-eq-ATTRIBUTE.true (c.names_fit.ensures (c.if-not-names_fit.false)) (c.fits-then-kind-eq-ATTRIBUTE.ensures e)

pub returns-then-not-names_fit-2 : goal.returns-then-not-names_fit-2
returns-then-not-names_fit-2 c = λ e. absurd (true-not-false e refl)

pub returns-then-kind-eq-ELEMENT : goal.returns-then-kind-eq-ELEMENT
returns-then-kind-eq-ELEMENT c =
    λ e. plain-element c.args.table.now c.args.pool.now c.args.row.0 c.kind-kind.ensures c.if-kind-eq-ELEMENT.true (c.names_fit-then-kind-eq-ELEMENT.ensures (c.if-not-names_fit-2.false)) (sym c.is_nothing.ensures ∙ e)

pub returns : goal.returns
returns c = λ e. absurd (true-not-false e refl)
