-- What follows some first bytes.
-- Assumes nothing.
use Prim.Native.Nat.{ℕ, ◌≤◌}
use mathlib.Core.Path.{◌≡◌}
use mathlib.Core.List.{[], ◌∷◌}
use mathlib.Core.Option.{some}
use native.Mathlib.Omega.{arith}
use lib.Dec.{leb}
use borrow.Author.Tests.{leb-true, leb-false}
use Rattle.rules.specs.Utf8.{tail, following}
use Rattle.rules.proofs.Lists.{by_cases}
use Rattle.rules.proofs.Utf8.{following-3, following-3'}

-- The first bytes of three that set the second no bounds of its own.
pub following-three : (b : ℕ) → 0xE1 ≤ b → b ≤ 0xEF → (b ≡ 0xED → ⊥) → following b ≡ some (tail ∷ tail ∷ [])
following-three b l h n =
    by_cases (leb b 0xEC)
    (λ q. following-3 b l (leb-true b 0xEC q))
    (λ q. let k = leb-false b 0xEC q in let e : 0xEE ≤ b = omega arith in following-3' b e h)
