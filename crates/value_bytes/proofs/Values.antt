-- Values: those of a pool of ASCII are well-formed, and a value is the bytes from its offset on.
-- Assumes nothing.
use Prim.Native.Nat.{ℕ, zero, suc, ◌+◌, ◌*◌, ◌-◌, ◌≤◌}
use mathlib.Core.Path.{◌≡◌, refl, ap, ◌∙◌}
use mathlib.Core.Bool.{true}
use mathlib.Core.List.{List, [], ◌∷◌}
use native.Mathlib.Omega.{arith}
use lib.ListN.{get_or, take, drop, replicate}
use Rattle.rules.specs.Lists.{all_of}
use Rattle.rules.specs.Table.{part, word}
use Rattle.rules.specs.Utf8.{well_formed, is_ascii}
use Rattle.rules.specs.declared.Place.{Place}
use Rattle.rules.proofs.Lists.{both_true, true-both}
use Rattle.rules.proofs.Utf8.{ascii-well-formed}
use Rattle.rows.specs.Reading.{place_at}
use Rattle.marks.specs.Marks.{between, Marked}

ascii_drop : (n : ℕ) (bs : List ℕ) → all_of is_ascii bs ≡ true → all_of is_ascii (drop n bs) ≡ true
ascii_drop zero bs a = a
ascii_drop (suc n) [] a = refl
ascii_drop (suc n) (b ∷ bs) a = ascii_drop n bs (both_true (is_ascii b) (all_of is_ascii bs) a).1

ascii_take : (n : ℕ) (bs : List ℕ) → all_of is_ascii bs ≡ true → all_of is_ascii (take n bs) ≡ true
ascii_take zero bs a = refl
ascii_take (suc n) [] a = refl
ascii_take (suc n) (b ∷ bs) a =
    let h = both_true (is_ascii b) (all_of is_ascii bs) a in
    true-both h.0 (ascii_take n bs h.1)

pub ascii-formed : (pool : List ℕ) → all_of is_ascii pool ≡ true → (offset size : ℕ) → well_formed (part pool offset size) ≡ true
ascii-formed pool a offset size = ascii-well-formed (part pool offset size) (ascii_take size (drop offset pool) (ascii_drop offset pool a))

-- Zeros are marks that tell nothing.
zeros : (size i : ℕ) → ◌≡◌ {A = ℕ} (get_or (replicate size 0) i 0) 0
zeros zero i = refl
zeros (suc size) zero = refl
zeros (suc size) (suc i) = zeros size i

pub zeros-marked : (size : ℕ) (pool : List ℕ) → Marked pool (replicate size 0)
zeros-marked size pool k h l = let z = zeros size (2 * k) in absurd (omega arith)

-- The place of a field, in the pool.
module _ (table : List ℕ) (r k limit : ℕ) {place : Place} (p : place ≡ place_at table r k) where
  pub place_inside : word table r k + word table r (k + 1) ≤ limit → place.offset.0 + place.length ≤ limit
  place_inside h = rw p h

  pub place-formed : (pool : List ℕ) {formed : _} → formed ≡ well_formed (between pool place.offset.0 (place.offset.0 + place.length)) → formed ≡ well_formed (part pool (word table r k) (word table r (k + 1)))
  place-formed pool f =
      let s : word table r k + word table r (k + 1) - word table r k ≡ word table r (k + 1) = omega arith in
      rw p at f ∙ ap (λ (n : ℕ). well_formed (take n (drop (word table r k) pool))) s
