-- `structure::line` meets its contract.
use native.Mathlib.Omega.{arith}
use mathlib.Core.Path.{sym}
use Rattle.tree.proofs.Allowed.{line_low, line-element, line-attribute, line-unknown}
use Rattle.tree.proofs.structure.line.Goals as goal

pub returns-then-kind-le-DECLARATION : goal.returns-then-kind-le-DECLARATION
returns-then-kind-le-DECLARATION c = sym (line_low c.args.kind (omega arith))

pub returns-then-kind-eq-LEVEL1_ELEMENT : goal.returns-then-kind-eq-LEVEL1_ELEMENT
returns-then-kind-eq-LEVEL1_ELEMENT c = sym (line-element c.args.kind c.if-kind-eq-LEVEL1_ELEMENT.true)

pub returns-then-kind-eq-LEVEL1_ATTRIBUTE : goal.returns-then-kind-eq-LEVEL1_ATTRIBUTE
returns-then-kind-eq-LEVEL1_ATTRIBUTE c = sym (line-attribute c.args.kind c.if-kind-eq-LEVEL1_ATTRIBUTE.true)

pub returns : goal.returns
returns c =
    sym (line-unknown c.args.kind (omega arith) c.if-kind-eq-LEVEL1_ELEMENT.false c.if-kind-eq-LEVEL1_ATTRIBUTE.false)
