-- Groups of bytes that may overlap.
-- Assumes nothing.
use Prim.Native.Nat.{ℕ, ◌+◌, ◌≤◌}
use mathlib.Core.Path.{◌≡◌, refl, sym, ap, ◌∙◌}
use mathlib.Core.Bool.{Bool, ◌&&◌}
use mathlib.Core.List.{List, [], ◌∷◌}
use native.Mathlib.Omega.{arith}
use lib.ListN.{take, drop}
use lib.Seq.{take-take, drop-drop}
use Rattle.rules.specs.Lists.{same_bytes}
use Rattle.rules.specs.Table.{part}
use Rattle.rules.proofs.Lists.{by_cases, equal-same_bytes, same_bytes-equal}
use Rattle.short_strings.proofs.Bytes.{EqualFrom, differ-group, front-decides}
use Rattle.short_strings.proofs.Order.{end-then-front}

-- Strings that are the same from i on, and whose first n bytes reach that far.
pub overlap : (a b : List ℕ) (n i : ℕ) → i ≤ n → EqualFrom a b i → {is : Bool} → is ≡ same_bytes (part a 0 n) (part b 0 n) → is ≡ same_bytes a b
overlap a b n i reach from {is} told =
    by_cases (same_bytes (part a 0 n) (part b 0 n))
    (λ q.
    let front : take n a ≡ take n b = same_bytes-equal (take n a) (take n b) q in
    let less : take i a ≡ take i b = sym (take-take i n a reach) ∙ ap (take i) front ∙ take-take i n b reach in
    told ∙ q ∙ sym (equal-same_bytes less) ∙ front-decides a b i from)
    (λ q. told ∙ q ∙ differ-group a b n 0 q)

-- The second half of eight bytes.
last-four : (l : List ℕ) → drop 4 (take 8 l) ≡ take 4 (drop 4 l)
last-four [] = refl
last-four (x ∷ []) = refl
last-four (x ∷ y ∷ []) = refl
last-four (x ∷ y ∷ z ∷ []) = refl
last-four (x ∷ y ∷ z ∷ w ∷ l) = refl

half : (l : List ℕ) (i : ℕ) → drop 4 (part l i 8) ≡ part l (i + 4) 4
half l i = last-four (drop i l) ∙ ap (take 4) (drop-drop 4 i l)

-- Eight bytes are compared by halves.
pub same-eight : (a b : List ℕ) (i : ℕ) → (same_bytes (part a (i + 4) 4) (part b (i + 4) 4) && same_bytes (part a i 4) (part b i 4)) ≡ same_bytes (part a i 8) (part b i 8)
same-eight a b i =
    rw (← half a i, ← half b i, ← take-take 4 8 (drop i a) (omega arith), ← take-take 4 8 (drop i b) (omega arith)) (end-then-front (part a i 8) (part b i 8) 4)
