-- Rows that draw no refusal leave it to those behind them.
-- Assumes nothing.
use Prim.Native.Nat.{ℕ, zero, suc, ◌+◌, ◌≤◌, ◌<◌}
use mathlib.Core.Path.{◌≡◌, refl, sym, ◌∙◌}
use mathlib.Core.Option.{Option, none}
use native.Mathlib.Nat.{add-zero}
use native.Mathlib.Omega.{arith}
use Rattle.rules.specs.declared.Refusal.{Refusal}
use Rattle.rules.proofs.Refusals.{refusal_from, from_next}

pub rest-passed : (row : ℕ → Option Refusal) (count r n : ℕ) → r + n ≤ count → ((q : ℕ) → r ≤ q → q < r + n → row q ≡ none) → refusal_from row count (r + n) ≡ refusal_from row count r
rest-passed row count r zero h each = rw (add-zero r) refl
rest-passed row count r (suc n) h each =
    let next : r + suc n ≡ r + n + 1 = omega arith in
    rw next (sym (from_next row count (r + n) (omega arith) (each (r + n) (omega arith) (omega arith))) ∙ rest-passed row count r n (omega arith) (λ q i j. each q i (omega arith)))
