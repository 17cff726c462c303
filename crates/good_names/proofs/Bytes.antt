-- A good name goes byte by byte.
-- Assumes nothing.
use Prim.Native.Nat.{ℕ, ◌≤◌}
use mathlib.Core.Path.{◌≡◌, refl}
use mathlib.Core.Bool.{Bool, true, false, ◌&&◌, ◌||◌, or-true, or-false}
use mathlib.Core.List.{List, [], ◌∷◌}
use native.Mathlib.Omega.{arith}
use borrow.Author.Tests.{le-leb}
use lib.Dec.{eqb, leb}
use lib.ListN.{length}
use Rattle.rules.specs.Lists.{all_of}
use Rattle.rules.specs.Refusals.{is_between, is_first_byte, is_name_byte, good_name}

-- A small letter comes first; what is no small letter is one of the others.
pub first_small : (colons : Bool) (b : ℕ) → is_between 97 122 b ≡ true → true ≡ is_first_byte colons b
first_small colons b e = rw (e, or-true)

pub first-high : (colons : Bool) (b : ℕ) → 128 ≤ b → true ≡ is_first_byte colons b
first-high colons b h = rw (le-leb 128 b h, or-true)

pub first-other : (colons : Bool) (b : ℕ) → is_between 97 122 b ≡ false → (is_between 65 90 b || eqb b 95 || leb 128 b || colons && eqb b 58) ≡ is_first_byte colons b
first-other colons b e = rw (e, or-false)

module _ (colons : Bool) where
  pub good_none : (name : List ℕ) → length name ≡ 0 → true ≡ good_name colons name
  unfolding good_name
  good_none [] h = refl
  good_none (b ∷ bs) h = absurd (omega arith)

  pub good-first-fails : (name : List ℕ) (b : ℕ) (bs : List ℕ) → name ≡ b ∷ bs → is_first_byte colons b ≡ false → false ≡ good_name colons name
  unfolding good_name
  good-first-fails name b bs e first = rw (e, first)

  pub good-first : (name : List ℕ) (b : ℕ) (bs : List ℕ) → name ≡ b ∷ bs → is_first_byte colons b ≡ true → all_of (is_name_byte colons) bs ≡ good_name colons name
  unfolding good_name
  good-first name b bs e first = rw (e, first)
