-- `pass` meets its contract.
use mathlib.Core.Path.{refl}
use native.Mathlib.Omega.{arith}
use Rattle.dictionary.proofs.Laws.{has_last}
use Rattle.fast_path.proofs.pass.Goals as goal

pub follows_new-requires : goal.follows_new-requires
follows_new-requires c =
    record { in_bounds = has_last c.requires.reached.right; row_in_bounds = omega (arith, c.requires.reached.bound, c.requires.reached.owned.named) }

pub returns-then-follows_new : goal.returns-then-follows_new
returns-then-follows_new c =
    record { reached_2 = c.requires.reached; from_le_result = omega arith; by_index = λ q i j. absurd (omega arith); by_index_2 = λ q k i j. refl }
