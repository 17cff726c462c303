-- The NS prefixes, digit by digit.
-- Assumes nothing.
use Prim.Native.Nat.{ℕ, ◌+◌, ◌/◌, ◌%◌, ◌≤◌, ◌<◌}
use mathlib.Core.Path.{◌≡◌, refl, sym, ap, ◌∙◌}
use mathlib.Core.List.{List, [], ◌∷◌, ◌++◌}
use native.Mathlib.Omega.{arith}
use lib.ListN.{length, set, length-append}
use Rattle.rules.specs.Normalization.{numbered_prefix}
use Rattle.rules.proofs.Prefixes.{digits_last, digits_more}
use Rattle.buffers.specs.Writes.{written}
use Rattle.buffers.proofs.Writes.{write-more}

-- An NS prefix of one digit, and one of more: the prefix of the digits before the last, and the last.
module _ (k : ℕ) where
  pub numbered-last : k < 10 → numbered_prefix k ≡ 78 ∷ 83 ∷ (48 + k) ∷ []
  unfolding numbered_prefix
  numbered-last h = rw (digits_last k h) refl

  pub numbered_more : 10 ≤ k → numbered_prefix k ≡ numbered_prefix (k / 10) ++ (48 + k % 10) ∷ []
  unfolding numbered_prefix
  numbered_more h = rw (digits_more k h) refl

  pub more-length : 10 ≤ k → length (numbered_prefix k) ≡ length (numbered_prefix (k / 10)) + 1
  more-length h = ap length (numbered_more h) ∙ length-append (numbered_prefix (k / 10)) ((48 + k % 10) ∷ [])

  -- The last digit, stored behind the prefix of those before it.
  pub numbered-stored : (t : List ℕ) (at : ℕ) {t' : List ℕ} {front v : ℕ} → 10 ≤ k → at + length (numbered_prefix k) ≤ length t → front ≡ length (numbered_prefix (k / 10)) → t' ≡ written t at (numbered_prefix (k / 10)) → v ≡ 48 + k % 10 → set t' (at + front) v ≡ written t at (numbered_prefix k)
  numbered-stored t at h room size made digit =
      rw (size, made, digit) (write-more t at (numbered_prefix (k / 10)) (48 + k % 10) (omega (arith, more-length h)) ∙ ap (written t at) (sym (numbered_more h)))
