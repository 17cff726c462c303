-- Parts of bytes that hold no forbidden character hold none.
-- Assumes nothing.
use Prim.Native.Nat.{ℕ, zero, suc, ◌<◌}
use mathlib.Core.Path.{◌≡◌, refl}
use mathlib.Core.Bool.{false, ◌&&◌}
use mathlib.Core.List.{List, [], ◌∷◌}
use native.Mathlib.Omega.{arith}
use lib.Dec.{eqb}
use lib.ListN.{take, drop}
use Rattle.rules.proofs.Lists.{by_cases, both_false, right-false}
use Rattle.characters.specs.Characters.{is_control, is_last, is_second, starts_forbidden, forbidden_from}

last_taken : (n : ℕ) (l : List ℕ) → is_last l ≡ false → is_last (take n l) ≡ false
last_taken zero l h = refl
last_taken (suc n) [] h = refl
last_taken (suc n) (b ∷ bs) h = h

second-taken : (n : ℕ) (l : List ℕ) → is_second l ≡ false → is_second (take n l) ≡ false
second-taken zero l h = refl
second-taken (suc n) [] h = refl
second-taken (suc n) (b ∷ bs) h =
    by_cases (eqb b 0xBF)
    (λ t. rw t (last_taken n bs (right-false (eqb b 0xBF) (is_last bs) h t)))
    (λ t. rw t refl)

start-taken : (b n : ℕ) (bs : List ℕ) → starts_forbidden (b ∷ bs) ≡ false → starts_forbidden (b ∷ take n bs) ≡ false
start-taken b n bs h =
    let k = both_false (is_control b) (eqb b 0xEF && is_second bs) h in
    rw k.0
    (by_cases (eqb b 0xEF)
    (λ t. rw t (second-taken n bs (right-false (eqb b 0xEF) (is_second bs) k.1 t)))
    (λ t. rw t refl))

pub taken : (n : ℕ) (l : List ℕ) → forbidden_from l ≡ false → forbidden_from (take n l) ≡ false
unfolding forbidden_from
taken zero l h = refl
taken (suc n) [] h = refl
taken (suc n) (b ∷ bs) h =
    let k = both_false (starts_forbidden (b ∷ bs)) (forbidden_from bs) h in
    rw (start-taken b n bs k.0) (taken n bs k.1)

pub dropped : (i : ℕ) (l : List ℕ) → forbidden_from l ≡ false → forbidden_from (drop i l) ≡ false
unfolding forbidden_from
dropped zero l h = h
dropped (suc i) [] h = refl
dropped (suc i) (b ∷ bs) h = dropped i bs (both_false (starts_forbidden (b ∷ bs)) (forbidden_from bs) h).1

-- Where none starts at any of the first n bytes, these hold none.
pub none-starts : (n : ℕ) (l : List ℕ) → ((p : ℕ) → p < n → starts_forbidden (drop p l) ≡ false) → forbidden_from (take n l) ≡ false
unfolding forbidden_from
none-starts zero l h = refl
none-starts (suc n) [] h = refl
none-starts (suc n) (b ∷ bs) h = rw (start-taken b n bs (h 0 (omega arith))) (none-starts n bs (λ p k. h (suc p) (omega arith)))
