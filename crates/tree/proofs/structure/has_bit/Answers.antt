-- `structure::has_bit` meets its contract.
use mathlib.Core.Path.{◌∙◌, ap}
use Prim.Native.Nat.{ℕ}
use lib.ListN.{get_or}
use Rattle.tree.specs.Parents.{bit}
use Rattle.tree.proofs.Allowed.{bit-right}
use Rattle.tree.proofs.structure.has_bit.Goals as goal

pub returns : goal.returns
returns c =
    ap (λ (line : ℕ). bit (get_or c.args.lines.now line 0) c.args.above) c.wide.ensures
    ∙ bit-right c.args.lines.now c.requires.right c.args.line c.args.above c.requires.line_bound.0 c.requires.line_bound.1
