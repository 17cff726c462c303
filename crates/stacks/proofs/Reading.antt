-- What is read of the arrays.
-- Assumes nothing.
use Prim.Native.Nat.{ℕ, ◌+◌, ◌*◌, ◌%◌, ◌<◌}
use mathlib.Core.Path.{◌≡◌, ◌∙◌}
use mathlib.Core.Bool.{◌&&◌, not}
use mathlib.Core.List.{List}
use native.Mathlib.Omega.{arith}
use borrow.Author.Tests.{ne_eqb}
use lib.Dec.{eqb}
use lib.ListN.{set}
use Rattle.stacks.specs.Stacks.{TOPS, PREFIXES, COUNTS, MORE, LESS, top_at, prefix_at, value_at, counted, replaced}

pub serves-read :
    (notes tops : List ℕ) (d prefix found : ℕ) → prefix ≡ prefix_at notes d → found ≡ top_at tops PREFIXES prefix
    → (not (eqb prefix 0) && eqb found d) ≡ (not (eqb (prefix_at notes d) 0) && eqb (top_at tops PREFIXES (prefix_at notes d)) d)
serves-read notes tops d prefix found p f = rw (f, p)

-- The two branches of `count` and of `replace`.
module _ (notes tops : List ℕ) (d step : ℕ) where
  pub count-read :
      (value before : ℕ) → 0 < d → value ≡ value_at notes d → before ≡ top_at tops COUNTS value → set tops (TOPS * value + COUNTS) ((before + step) % 65536) ≡ counted notes tops d step
  count-read value before h v b = rw (ne_eqb d 0 (λ e. omega arith), b, v)

  pub count_none : d ≡ 0 → tops ≡ counted notes tops d step
  count_none e = rw e

module _ (notes tops : List ℕ) (prefix old new : ℕ) where
  pub replace-read : (t₁ t₂ : List ℕ) → (prefix ≡ 0 → ⊥) → t₁ ≡ counted notes tops old LESS → t₂ ≡ counted notes t₁ new MORE → t₂ ≡ replaced notes tops prefix old new
  replace-read t₁ t₂ some e₁ e₂ = e₂ ∙ rw (ne_eqb prefix 0 some, e₁)

  pub replace-none : prefix ≡ 0 → tops ≡ replaced notes tops prefix old new
  replace-none e = rw e
