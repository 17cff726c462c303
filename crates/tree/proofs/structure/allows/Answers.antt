-- `structure::allows` meets its contract.
use mathlib.Core.Path.{ap, ◌∙◌}
use Prim.Native.Nat.{ℕ}
use native.Mathlib.Omega.{arith}
use Rattle.rules.specs.Refusals.{parent_rule}
use Rattle.tree.specs.Parents.{rule_allows}
use Rattle.tree.proofs.Allowed.{line-bound, rule-line}
use Rattle.tree.proofs.structure.allows.Goals as goal

pub has_bit-requires : goal.has_bit-requires
has_bit-requires c =
    record { right = c.requires.right; line_bound = (omega (arith, c.line.ensures, line-bound c.args.kind), c.requires.above_bound) }

pub returns : goal.returns
returns c =
    c.has_bit.ensures
    ∙ ap (λ (line : ℕ). rule_allows (parent_rule line) c.args.above) c.line.ensures
    ∙ rule-line c.args.kind c.args.above
