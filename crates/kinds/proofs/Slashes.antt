-- A name with a slash in it is not good, with colons or without.
-- Assumes nothing.
use Prim.Native.Nat.{ℕ, suc, ◌≤◌, ◌<◌}
use mathlib.Core.Path.{◌≡◌}
use mathlib.Core.Bool.{Bool, true, false, ◌&&◌, ◌||◌}
use mathlib.Core.List.{List, [], ◌∷◌}
use native.Mathlib.Nat.{le_of_suc-le-suc, not-suc-le-zero}
use native.Mathlib.Omega.{arith}
use borrow.Author.Tests.{eqb-true}
use lib.Dec.{eqb}
use lib.ListN.{length, get_or}
use Rattle.rules.specs.Lists.{all_of}
use Rattle.rules.specs.Refusals.{is_first_byte, is_name_byte, good_name}
use Rattle.rules.proofs.Lists.{by_cases, both_true, true-not-false, all_of-get_or}

-- no byte of a name
slash : (colons : Bool) (b : ℕ) → b ≡ 47 → is_name_byte colons b ≡ false
slash true b e = rw e
slash false b e = rw e

slash-bad : (colons : Bool) (name : List ℕ) (j : ℕ) → suc j < length name → get_or name (suc j) 0 ≡ 47 → good_name colons name ≡ false
unfolding good_name
slash-bad colons [] j h e = absurd (not-suc-le-zero h)
slash-bad colons (b ∷ bs) j h e =
    by_cases (is_first_byte colons b && all_of (is_name_byte colons) bs)
    (λ g. absurd (true-not-false (all_of-get_or (is_name_byte colons) bs 0 j (both_true (is_first_byte colons b) (all_of (is_name_byte colons) bs) g).1 (le_of_suc-le-suc h)) (slash colons (get_or bs j 0) e)))
    (λ g. g)

pub slash-not-good : (name : List ℕ) → 8 ≤ length name → (eqb (get_or name 5 0) 47 || eqb (get_or name 6 0) 47) ≡ true → (colons : Bool) → good_name colons name ≡ false
slash-not-good name h e colons =
    by_cases (eqb (get_or name 5 0) 47)
    (λ f. slash-bad colons name 4 (omega arith) (eqb-true (get_or name 5 0) 47 f))
    (λ f. slash-bad colons name 5 (omega arith) (eqb-true (get_or name 6 0) 47 (rw f at e)))
