-- Equality of byte strings goes byte by byte.
-- Assumes nothing.
use Prim.Native.Nat.{ℕ, zero, suc, ◌+◌, ◌-◌, ◌≤◌, ◌<◌}
use mathlib.Core.Path.{◌≡◌, refl, sym, ap, ◌∙◌}
use mathlib.Core.Bool.{true, false, ◌&&◌, and_assoc, and-true}
use mathlib.Core.List.{List}
use native.Mathlib.Numerals.{add-one}
use native.Mathlib.Omega.{arith}
use borrow.Author.Tests.{eq-eqb}
use lib.Dec.{eqb}
use lib.ListN.{length, get_or, take, drop, drop_of_length-le}
use lib.Seq.{drop-cons, drop-drop}
use Rattle.rules.specs.Lists.{same_bytes}
use Rattle.rules.specs.Table.{part}
use Rattle.rules.proofs.Lists.{true-not-false, true-both, equal-same_bytes, unequal-same_bytes}
use Rattle.short_strings.proofs.Order.{end-then-front}

-- The strings are of one length, and the same from i on.
pub record EqualFrom (a b : List ℕ) (i : ℕ) : Type 0 where
  pub within : i ≤ length a
  pub level : length a ≡ length b
  pub behind : same_bytes (drop i a) (drop i b) ≡ true

module _ (a b : List ℕ) where
  pub equal-end : length a ≡ length b → EqualFrom a b (length a)
  equal-end e =
      record {
        within = omega arith;
        level = e;
        behind = rw (drop_of_length-le a {i = length a} (omega arith), drop_of_length-le b {i = length a} (omega arith)) refl;
      }

  pub equal-group : (n i : ℕ) → n ≤ i → EqualFrom a b i → same_bytes (part a (i - n) n) (part b (i - n) n) ≡ true → EqualFrom a b (i - n)
  equal-group n i h from group =
      let e : (i - n) + n ≡ i = omega arith in
      let rest : same_bytes (drop n (drop (i - n) a)) (drop n (drop (i - n) b)) ≡ true = rw (drop-drop n (i - n) a, drop-drop n (i - n) b, e) from.behind in
      record {
        within = omega arith;
        level = from.level;
        behind = sym (end-then-front (drop (i - n) a) (drop (i - n) b) n) ∙ true-both rest group;
      }

  pub equal-byte : (i : ℕ) → 0 < i → EqualFrom a b i → get_or a (i - 1) 0 ≡ get_or b (i - 1) 0 → EqualFrom a b (i - 1)
  equal-byte i h from byte =
      equal-group 1 i h from
      (rw (drop-cons a (i - 1) 0 (omega arith), drop-cons b (i - 1) 0 (omega arith), and-true) (eq-eqb (get_or a (i - 1) 0) (get_or b (i - 1) 0) byte))

  pub equal-whole : (i : ℕ) → i ≤ 0 → EqualFrom a b i → true ≡ same_bytes a b
  equal-whole zero h from = sym from.behind
  equal-whole (suc i) h from = absurd (omega arith)

  -- Strings that differ in something, such as their length, are not the same.
  pub differ : {A : Type 0} (f : List ℕ → A) → (f a ≡ f b → ⊥) → false ≡ same_bytes a b
  differ f h = sym (unequal-same_bytes a b (λ e. h (ap f e)))

  pub differ-group : (n i : ℕ) → same_bytes (part a i n) (part b i n) ≡ false → false ≡ same_bytes a b
  differ-group n i other = differ (λ l. part l i n) (λ e. true-not-false (equal-same_bytes e) other)

  -- A group of four bytes is compared byte by byte.
  pub same-four :
      (i : ℕ) → i + 4 ≤ length a → i + 4 ≤ length b
      → (((eqb (get_or a i 0) (get_or b i 0) && eqb (get_or a (i + 1) 0) (get_or b (i + 1) 0)) && eqb (get_or a (i + 2) 0) (get_or b (i + 2) 0)) && eqb (get_or a (i + 3) 0) (get_or b (i + 3) 0))
      ≡ same_bytes (part a i 4) (part b i 4)
  same-four i h l =
      let two : i + 2 ≡ suc (suc i) = omega arith in
      let three : i + 3 ≡ suc (suc (suc i)) = omega arith in
      rw (add-one, two, three, drop-cons a i 0 (omega arith), drop-cons b i 0 (omega arith), drop-cons a (suc i) 0 (omega arith), drop-cons b (suc i) 0 (omega arith), drop-cons a (suc (suc i)) 0 (omega arith), drop-cons b (suc (suc i)) 0 (omega arith), drop-cons a (suc (suc (suc i))) 0 (omega arith), drop-cons b (suc (suc (suc i))) 0 (omega arith), and_assoc, and_assoc, and-true)

-- The same from the start of a group on, where they are behind it and the group is.
pub group-before : (a b : List ℕ) (n j : ℕ) {i : ℕ} → j + n ≡ i → EqualFrom a b i → same_bytes (part a j n) (part b j n) ≡ true → EqualFrom a b j
group-before a b n j {i} e from group =
    let back : i - n ≡ j = omega arith in
    rw back at (equal-group a b n i (omega arith) from (rw back group))

-- Strings that are the same from i on are the same if their fronts are.
pub front-decides : (a b : List ℕ) (i : ℕ) → EqualFrom a b i → same_bytes (take i a) (take i b) ≡ same_bytes a b
front-decides a b i from = sym (ap (λ t. t && same_bytes (take i a) (take i b)) from.behind) ∙ end-then-front a b i
