-- `near_rows::nearest` meets its contract.
use Prim.Native.Nat.{ℕ, ◌+◌, ◌<◌}
use native.Mathlib.Omega.{arith}
use mathlib.Core.Path.{sym, ◌∙◌, ap, subst}
use Rattle.stacks.specs.Stacks.{NUMBERED, under_at}
use Rattle.near_rows.specs.Outward.{near_at, Near}
use Rattle.near_rows.proofs.Outward.{near-own, near-parent, near_none}
use Rattle.near_rows.proofs.nearest.Goals as goal

pub returns-then-link-ne0 : goal.returns-then-link-ne0
returns-then-link-ne0 c = near-own c.args.table.now c.args.notes.now c.args.row.0 c.requires.row_bound c.position_of.ensures

pub returns-then-parent-row : goal.returns-then-parent-row
returns-then-parent-row c =
    let less = c.if-parent-row.true in
    let table = c.args.table.now in
    let path = c.args.path.now in
    let near = c.requires.near (subst (λ (k : ℕ). k < c.args.row.0) c.parent-parent.ensures less) in
    near-parent table c.args.notes.now c.args.row.0 c.requires.row_bound (sym c.link.ensures ∙ c.if-link-ne0.false) c.parent-parent.result.0 c.parent-parent.ensures less
    (subst (λ (k : ℕ). Near table c.args.notes.now k (c.parent-parent.result.0 + 1)) (sym (c.beside.ensures ∙ ap (under_at path NUMBERED) c.position_of-then-parent-row.ensures))
    (subst (λ (k : ℕ). Near table c.args.notes.now (near_at path k) (k + 1)) (sym c.parent-parent.ensures) near))

pub returns : goal.returns
returns c =
    near_none c.args.table.now c.args.notes.now c.args.row.0 c.requires.row_bound (sym c.link.ensures ∙ c.if-link-ne0.false) c.parent-parent.result.0 c.parent-parent.ensures (omega (arith, c.if-parent-row.false))
