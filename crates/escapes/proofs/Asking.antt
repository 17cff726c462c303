-- Laws of specs/Escapes.antt: which bytes are escaped, in a text and in quotes.
-- Assumes nothing.
use Prim.Native.Nat.{ℕ}
use mathlib.Core.Path.{◌≡◌, refl}
use mathlib.Core.Bool.{Bool, true, false, ◌&&◌, ◌||◌, or-false}
use mathlib.Core.List.{List}
use lib.Dec.{eqb}
use Rattle.rules.proofs.Lists.{by_cases, true-not-false}
use Rattle.escapes.specs.Escapes.{escapes, is_escaped, escape}
use Rattle.escapes.proofs.Values.{every_byte}

-- What a byte that is escaped is, in order.
pub escaped-is : (quoted : Bool) (b : ℕ) → is_escaped quoted b ≡ (eqb b 38 || (eqb b 60 || (eqb b 62 || (eqb b 34 || (eqb b 13 || (quoted && (eqb b 9 || eqb b 10)))))))
unfolding is_escaped escapes
escaped-is true b = rw (or-false (eqb b 10)) refl
escaped-is false b = refl

-- A byte that is escaped in a text is escaped in quotes alike.
pub in-quotes : (quoted : Bool) (b : ℕ) → is_escaped quoted b ≡ true → (is_escaped true b ≡ true) × (escape quoted b ≡ escape true b)
unfolding is_escaped escape escapes
in-quotes =
    every_byte (λ (quoted : Bool) (b : ℕ) (l : List ℕ). is_escaped quoted b ≡ true → (is_escaped true b ≡ true) × (l ≡ escape true b))
    (λ quoted. (λ e. (refl, refl), λ e. (refl, refl), λ e. (refl, refl), λ e. (refl, refl), λ e. (refl, refl)))
    (λ e. (refl, refl), λ e. (refl, refl))
    (λ quoted b no? e. absurd (true-not-false e no?))

-- A byte that is not escaped in quotes is escaped nowhere.
pub nowhere : (quoted : Bool) (b : ℕ) → is_escaped true b ≡ false → is_escaped quoted b ≡ false
nowhere quoted b h = by_cases (is_escaped quoted b) (λ e. absurd (true-not-false (in-quotes quoted b e).0 h)) (λ e. e)
