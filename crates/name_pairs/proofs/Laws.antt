-- Pairs of numbers that were found to stand for the same bytes.
-- Assumes nothing.
use Prim.Native.Nat.{ℕ, zero, suc, ◌+◌, ◌≤◌, ◌<◌}
use mathlib.Core.Path.{◌≡◌, refl, sym, ◌∙◌, subst}
use mathlib.Core.Bool.{Bool, true}
use mathlib.Core.List.{List}
use native.Mathlib.Omega.{arith}
use borrow.Author.Tests.{eqb-true, eqb-false}
use lib.Dec.{eqb}
use lib.ListN.{length, get_or, set, replicate, length-set, length-replicate}
use lib.Seq.{get_or-set_same, get_or-set_other}
use Rattle.rules.specs.Lists.{same_bytes}
use Rattle.rules.proofs.Lists.{by_cases}
use Rattle.name_pairs.specs.Met.{WORDS, Met}

-- What a comparison of two parts tells.
pub compared : {is : Bool} {a b x y : List ℕ} → is ≡ same_bytes a b → a ≡ x → b ≡ y → is ≡ same_bytes x y
compared {is} {a} {b} {x} {y} e p q = rw (← p, ← q) e

module _ {met : List ℕ} {s s' : ℕ → List ℕ} (known : Met met s s') (n m : ℕ) where
  -- A pair that is known.
  pub met-same : eqb (get_or met n 0) (m + 1) ≡ true → s n ≡ s' m
  met-same e = known.equal n m (eqb-true (get_or met n 0) (m + 1) e)

  -- A pair becomes known.
  pub met-noted : n < length met → s n ≡ s' m → Met (set met n (m + 1)) s s'
  met-noted inside e =
      record {
        words = rw length-set known.words;
        equal = λ i j is.
            by_cases (eqb i n)
            (λ q.
            let z : i ≡ n = eqb-true i n q in
            let there : get_or (set met n (m + 1)) n 0 ≡ j + 1 = subst (λ (k : ℕ). get_or (set met n (m + 1)) k 0 ≡ j + 1) z is in
            let number : m ≡ j = let told = sym (get_or-set_same met n (m + 1) 0 inside) ∙ there in omega (arith, told) in
            rw (z, ← number) e)
            (λ q. known.equal i j (sym (get_or-set_other met n i (m + 1) 0 (eqb-false i n q)) ∙ is));
      }

-- Zeros are no pairs.
zeros : (size i : ℕ) → ◌≡◌ {A = ℕ} (get_or (replicate size 0) i 0) 0
zeros zero i = refl
zeros (suc size) zero = refl
zeros (suc size) (suc i) = zeros size i

pub zeros-met : (s s' : ℕ → List ℕ) (size : ℕ) → WORDS ≤ size → Met (replicate size 0) s s'
zeros-met s s' size long =
    record {
      words = rw length-replicate long;
      equal = λ n m is. let none = sym (zeros size n) ∙ is in absurd (omega (arith, none));
    }
