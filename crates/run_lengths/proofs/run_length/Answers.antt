-- `run_lengths::run_length` meets its contract.
use Prim.Native.Nat.{ℕ, ◌+◌, ◌*◌}
use mathlib.Core.Path.{◌∙◌, ap}
use lib.ListN.{get_or}
use Rattle.run_lengths.proofs.run_length.Goals as goal

pub returns : goal.returns
returns c =
    (c.wide.ensures.0 ∙ ap (λ (k : ℕ). get_or c.args.runs.now (2 * c.args.i + k) 0) c.place.ensures.0, c.wide.ensures.1)
