-- `name_of` meets its contract.
use Prim.Native.Nat.{ℕ}
use mathlib.Core.Path.{ap, ◌∙◌}
use mathlib.Core.List.{List}
use native.Mathlib.Omega.{arith}
use Rattle.entries.specs.Entries.{name_at}
use Rattle.dictionary.proofs.Places.{lent}
use Rattle.dictionary.proofs.name_of.Goals as goal

pub returns : goal.returns
returns c =
    c.name_of.ensures ∙ ap (λ (e : List ℕ). name_at e c.args.pool.now c.args.number.0) (lent c.args.dictionary.now (omega arith))
