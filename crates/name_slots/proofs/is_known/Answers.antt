-- `is_known` meets its contract.
use Prim.Native.Nat.{ℕ}
use mathlib.Core.Path.{refl, ap, ◌∙◌}
use lib.Dec.{eqb}
use Rattle.rules.specs.Table.{ELEMENT}
use Rattle.rules.proofs.Lists.{true-not-false}
use Rattle.name_slots.proofs.Slots.{held, prefixed}
use Rattle.name_slots.proofs.is_known.Goals as goal

pub returns-then-prefix-kind : goal.returns-then-prefix-kind
returns-then-prefix-kind c = λ e. absurd (true-not-false e refl)

pub returns : goal.returns
returns c =
    λ is. held c.args.table.now c.args.notes.now c.args.known.now c.args.row.0 c.slot_of.result c.holds.ensures is c.name-prefix.ensures c.name-uri.ensures
    (λ other. prefixed c.kind.result c.name-prefix.result.0 c.if-prefix-kind.false (ap (λ (k : ℕ). eqb k ELEMENT) c.kind.ensures ∙ other))
