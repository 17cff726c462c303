-- `structure::bad` meets its contract.
use Prim.Native.Nat.{◌≤◌, ◌<◌}
use mathlib.Core.Path.{sym, ap, ◌∙◌}
use native.Mathlib.Omega.{arith}
use borrow.Author.Tests.{leb-true, ltb-true}
use lib.Dec.{leb, ltb}
use Rattle.rules.specs.Table.{DOCUMENT, DECLARATION}
use Rattle.rules.specs.Refusals.{parent_rule}
use Rattle.rules.proofs.Lists.{both_true}
use Rattle.tree.specs.Parents.{rule_allows}
use Rattle.tree.proofs.Allowed.{line_low, line-bound}
use Rattle.tree.proofs.Parents.{structure-alone, structure-late, structure-told, structure-refused, structure-elsewhere, structure-other, structure-second}
use Rattle.tree.proofs.structure.bad.Goals as goal

pub returns-then-parent : goal.returns-then-parent
returns-then-parent c =
    λ pool. structure-alone c.args.table.now pool c.args.row.0 c.requires.row_bound.0 c.kind-kind.ensures c.parent-parent.ensures c.requires.row_bound.1 c.if-parent.true c.allows.ensures

pub returns-then-parent-row : goal.returns-then-parent-row
returns-then-parent-row c =
    λ pool. structure-late c.args.table.now pool c.args.row.0 c.requires.row_bound.0 c.kind-kind.ensures c.parent-parent.ensures c.if-parent.false (omega arith)

pub has_bit-requires : goal.has_bit-requires
has_bit-requires c =
    let fact : (c.kind-kind.result ≤ DECLARATION) × (c.kind-above.result < DOCUMENT) = let kind = c.kind-kind.result in
    let above = c.kind-above.result in
    let both = both_true (leb kind DECLARATION) (ltb above DOCUMENT) c.if-kind-above.true in
    (leb-true kind DECLARATION both.0, ltb-true above DOCUMENT both.1) in
    record {
      right = c.requires.right;
      line_bound = (
        omega (
          arith,
          fact.0,
        ),
        omega (
          arith,
          fact.1,
        ),
      );
    }

pub returns-then-kind-above : goal.returns-then-kind-above
returns-then-kind-above c =
    let fact : (c.kind-kind.result ≤ DECLARATION) × (c.kind-above.result < DOCUMENT) = let kind = c.kind-kind.result in
    let above = c.kind-above.result in
    let both = both_true (leb kind DECLARATION) (ltb above DOCUMENT) c.if-kind-above.true in
    (leb-true kind DECLARATION both.0, ltb-true above DOCUMENT both.1) in
    let above = c.kind-above.result in
    λ pool.
    structure-told c.args.table.now pool c.args.row.0 c.requires.row_bound.0 c.kind-kind.ensures c.parent-parent.ensures c.if-parent.false (omega arith) c.kind-above.ensures
    (c.has_bit.ensures ∙ ap (rule_allows (parent_rule c.kind-kind.result)) (sym (line_low above (omega (
      arith,
      fact.1,
    ))))) (λ e. omega (
      arith,
      fact.1,
    ))

pub allows-requires-2 : goal.allows-requires-2
allows-requires-2 c =
    record { right = c.requires.right; above_bound = omega (arith, c.line.ensures, line-bound c.kind-above.result) }

pub returns-then-not-allows : goal.returns-then-not-allows
returns-then-not-allows c =
    λ pool.
    structure-refused c.args.table.now pool c.args.row.0 c.requires.row_bound.0 c.kind-kind.ensures c.parent-parent.ensures c.if-parent.false (omega arith) c.kind-above.ensures
    (c.allows-2.ensures ∙ ap (rule_allows (parent_rule c.kind-kind.result)) c.line.ensures) (c.if-not-allows.true)

pub returns-then-above-ne-DOCUMENT : goal.returns-then-above-ne-DOCUMENT
returns-then-above-ne-DOCUMENT c =
    λ pool.
    structure-elsewhere c.args.table.now pool c.args.row.0 c.requires.row_bound.0 c.kind-kind.ensures c.parent-parent.ensures c.if-parent.false (omega arith) c.kind-above.ensures
    (c.allows-2.ensures ∙ ap (rule_allows (parent_rule c.kind-kind.result)) c.line.ensures) (c.if-not-allows.false) c.if-above-ne-DOCUMENT.true

pub returns-then-not-is_element : goal.returns-then-not-is_element
returns-then-not-is_element c =
    λ pool.
    structure-other c.args.table.now pool c.args.row.0 c.requires.row_bound.0 c.kind-kind.ensures c.parent-parent.ensures c.if-parent.false (omega arith) c.kind-above.ensures
    (c.allows-2.ensures ∙ ap (rule_allows (parent_rule c.kind-kind.result)) c.line.ensures) (c.if-not-allows.false) (sym c.is_element.ensures ∙ c.if-not-is_element.true)

pub returns : goal.returns
returns c =
    λ pool.
    structure-second c.args.table.now pool c.args.row.0 c.requires.row_bound.0 c.kind-kind.ensures c.parent-parent.ensures c.if-parent.false (omega arith) c.kind-above.ensures
    (c.allows-2.ensures ∙ ap (rule_allows (parent_rule c.kind-kind.result)) c.line.ensures) (c.if-not-allows.false) c.if-above-ne-DOCUMENT.false
    (sym c.is_element.ensures ∙ c.if-not-is_element.false) c.has_element.ensures
