-- What follows from numbers that stand for names.
-- Assumes nothing.
use Prim.Native.Nat.{ℕ, zero, suc, ◌≤◌, ◌<◌}
use mathlib.Core.Path.{◌≡◌}
use mathlib.Core.Bool.{false}
use mathlib.Core.List.{List}
use native.Mathlib.Omega.{arith}
use lib.Dec.{eqb}
use Rattle.rules.specs.Lists.{same_bytes}
use Rattle.rules.proofs.Lists.{same_bytes-equal}
use Rattle.chains.proofs.Laws.{latest-within, latest-passes, latest-none}
use Rattle.numbers.specs.Numbers.{Names, Spelling, number_in}

-- Two numbers are equal exactly where the names are that they stand for.
pub same_number : {spelling : ℕ → List ℕ} {last : ℕ} → Spelling spelling last → {m n : ℕ} {a b : List ℕ} → Names spelling last m a → Names spelling last n b → eqb m n ≡ same_bytes a b
same_number s {m} {n} p q = rw (← p.spelled, ← q.spelled) (s.distinct m n p.known q.known)

module _ (spelling : ℕ → List ℕ) (last : ℕ) (name : List ℕ) where
  -- A number that is found stands for the name.
  pub found-names : {n : ℕ} → n ≡ number_in spelling last name → 0 < n → Names spelling last n name
  found-names e h =
      record {
        known = rw e (latest-within (λ n. same_bytes (spelling n) name) last);
        spelled = rw e (same_bytes-equal (spelling (number_in spelling last name)) name (latest-passes (λ n. same_bytes (spelling n) name) last (rw e at h)));
      }

  -- Where none is found, no number from 1 stands for it.
  pub none-names : number_in spelling last name ≡ 0 → (n : ℕ) → 0 < n → n ≤ last → same_bytes (spelling n) name ≡ false
  none-names e zero h l = absurd (omega arith)
  none-names e (suc n) h l = latest-none (λ n. same_bytes (spelling n) name) last e n l
