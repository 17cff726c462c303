-- A step of the key stays within 64 bits.
-- Assumes nothing.
use Prim.Native.Nat.{ℕ, ◌*◌, ◌≤◌, ◌<◌}
use native.Mathlib.Nat.{mul-le-mul}
use native.Mathlib.Omega.{arith}

-- The product of a word and of one more than a word.
pub wide-product : (a b : ℕ) → a < 4294967296 → b ≤ 4294967296 → a * b ≤ 18446744069414584320
wide-product a b h l = mul-le-mul {n₂ = 4294967295} {m₂ = 4294967296} (omega arith) l
