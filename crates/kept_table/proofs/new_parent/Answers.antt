-- `kept_table::new_parent` meets its contract.
use mathlib.Core.Path.{◌≡◌}
use mathlib.Core.Logic.{◌⊎◌, inl, inr}
use Prim.Native.Nat.{◌<◌}
use lib.ListN.{length}
use Rattle.rules.specs.Table.{NONE}
use Rattle.kept_table.proofs.Rows.{renumbered-none, renumbered-row}
use Rattle.kept_table.proofs.new_parent.Goals as goal

pub returns-then-parent-eq-NONE : goal.returns-then-parent-eq-NONE
returns-then-parent-eq-NONE c = renumbered-none c.args.numbers.now c.args.parent.0 c.if-parent-eq-NONE.true

pub row_at-requires : goal.row_at-requires
row_at-requires c =
    go c.requires
  where
    go : (c.args.parent.0 ≡ NONE) ⊎ (c.args.parent.0 < length c.args.numbers.now) → c.args.parent.0 < length c.args.numbers.now
    go (inl z) = absurd (c.if-parent-eq-NONE.false z)
    go (inr b) = b

pub returns : goal.returns
returns c = renumbered-row c.args.numbers.now c.args.parent.0 c.if-parent-eq-NONE.false c.row_at.ensures
