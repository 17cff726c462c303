-- The steps of the hash.
-- Assumes nothing.
use Prim.Native.Nat.{ℕ, zero, suc, ◌+◌, ◌-◌, ◌*◌, ◌/◌, ◌%◌, ◌≤◌, ◌<◌}
use mathlib.Core.Path.{◌≡◌, refl, ap, ◌∙◌}
use mathlib.Core.List.{List}
use native.Mathlib.Omega.{arith}
use borrow.Author.Tests.{eq-eqb, ne_eqb, lt-ltb, le-ltb, le-leb, lt-leb}
use lib.ListN.{length, get_or}
use Rattle.hash.specs.Hash.{four, mixed, mixed_down, mixed_long, mixed_short, hash_of}

module _ (name : List ℕ) where
  pub mixed-step : (k h : ℕ) → 0 < k → {low high r : ℕ} → low ≡ four name (8 * (k - 1)) → high ≡ four name (8 * (k - 1) + 4) → r ≡ mixed h low high → mixed_down name (k - 1) r ≡ mixed_down name k h
  unfolding mixed_down
  mixed-step zero h i p q e = absurd (omega arith)
  mixed-step (suc k) h i p q e =
      let s : suc k - 1 ≡ k = omega arith in
      rw (e, p, q) (ap (λ j. mixed_down name j (mixed h (four name (8 * j)) (four name (8 * j + 4)))) s)

  -- The last eight come first.
  pub mixed-end :
      (k h : ℕ) → k ≤ 0 → {low high h₀ : ℕ} → low ≡ four name (length name - 8) → high ≡ four name (length name - 4) → h₀ ≡ mixed (length name % 65536) low high
      → mixed_down name k h ≡ mixed_down name ((length name - 1) / 8) h₀ → h ≡ mixed_long name
  unfolding mixed_down mixed_long
  mixed-end zero h i l u m e = e ∙ rw (m, l, u) refl
  mixed-end (suc k) h i l u m e = absurd (omega arith)

  -- A short name.
  pub short-fours : 4 ≤ length name → {low high r : ℕ} → low ≡ four name 0 → high ≡ four name (length name - 4) → r ≡ mixed (length name) low high → r ≡ mixed_short name
  unfolding mixed_short
  short-fours h l u e = rw (le-leb 4 (length name) h, ← l, ← u) e

  module _ (h : length name < 4) where
    pub short-empty : length name ≡ 0 → 0 ≡ mixed_short name
    unfolding mixed_short
    short-empty z = rw (lt-leb 4 (length name) h, eq-eqb (length name) 0 z) refl

    pub short-bytes :
        (length name ≡ 0 → ⊥) → {a b c r : ℕ} → a ≡ get_or name 0 0 → b ≡ get_or name (length name / 2) 0 → c ≡ get_or name (length name - 1) 0 → r ≡ mixed (length name) (a + 256 * b + 65536 * c) 0
        → r ≡ mixed_short name
    unfolding mixed_short
    short-bytes n a b c e = rw (lt-leb 4 (length name) h, ne_eqb (length name) 0 n, ← a, ← b, ← c) e

  -- The upper half of the last step.
  pub hash-short : length name < 8 → {h r : ℕ} → h ≡ mixed_short name → r ≡ h / 65536 % 65536 → r ≡ hash_of name
  unfolding hash_of
  hash-short l h e = rw (lt-ltb (length name) 8 l, ← h) e

  pub hash-long : 8 ≤ length name → {h r : ℕ} → h ≡ mixed_long name → r ≡ h / 65536 % 65536 → r ≡ hash_of name
  unfolding hash_of
  hash-long l h e = rw (le-ltb (length name) 8 l, ← h) e
