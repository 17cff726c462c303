-- `is_inside` meets its contract.
use Prim.Native.Nat.{ℕ}
use mathlib.Core.Path.{refl, sym, ap, ◌∙◌}
use native.Mathlib.Omega.{arith}
use borrow.Author.Tests.{eqb-true}
use Rattle.rules.specs.Table.{TYPE, ELEMENT, word}
use Rattle.rules.proofs.Lists.{true-not-false}
use Rattle.plain_rows.proofs.is_inside.Goals as goal

pub returns-then-parent-row : goal.returns-then-parent-row
returns-then-parent-row c = λ e. absurd (true-not-false e refl)

pub returns : goal.returns
returns c =
    λ e.
    record {
      before = omega (arith, c.parent-parent.ensures, c.if-parent-row.false);
      above = ap (λ (parent : ℕ). word c.args.table.now parent TYPE) (sym c.parent-parent.ensures) ∙ sym c.kind.ensures ∙ eqb-true c.kind.result ELEMENT e;
    }
