-- The number read from a name, and the NS prefix of a number.
-- Assumes nothing.
use Prim.Native.Nat.{ℕ, zero, suc, ◌+◌, ◌-◌, ◌*◌, ◌/◌, ◌%◌, ◌≤◌, ◌<◌}
use native.Mathlib.Nat.{le_refl}
use native.Mathlib.Numerals.{add-one}
use native.Mathlib.Omega.{arith}
use mathlib.Core.Bool.{true, false, cond, ◌&&◌, ◌||◌}
use mathlib.Core.List.{List, [], ◌∷◌, ◌++◌, append_assoc, append-nil}
use mathlib.Core.Path.{◌≡◌, refl, sym, ap, ◌∙◌}
use lib.ListN.{length, get_or, take, drop, take-append-drop, drop_of_length-le}
use lib.Seq.{drop-cons}
use lib.Dec.{eqb, ltb, leb}
use borrow.Author.Tests.{lt-ltb, ltb-true, ltb-false, le-leb, leb-true, eqb-true, eqb-false, ne_eqb}
use Rattle.rules.specs.Lists.{same_bytes}
use Rattle.rules.specs.Normalization.{digits, numbered_prefix}
use Rattle.rules.proofs.Lists.{by_cases, both_true, true-both, either_left, either-right, same_bytes-equal, equal-same_bytes, unequal-same_bytes}
use Rattle.rules.proofs.Prefixes.{digits_last, digits_more}
use Rattle.ns_names.specs.Numbers.{follows, read_after, number_of}

-- The digits of a number with one more digit.
digits-follow : (front b : ℕ) → 1 ≤ front → 48 ≤ b → b ≤ 57 → digits (front * 10 + (b - 48)) (front * 10 + (b - 48)) ≡ digits front front ++ b ∷ []
digits-follow front b one low high =
    let k = front * 10 + (b - 48) in
    let q : k / 10 ≡ front = omega arith in
    let r : 48 + k % 10 ≡ b = omega arith in
    digits_more k (omega arith) ∙ rw (q, r) refl

-- What a byte that may follow is.
record Follows (front b : ℕ) : Type 0 where
  low : 48 ≤ b
  high : b ≤ 57
  few : front < 1000
  one : 1 ≤ front * 10 + (b - 48)

follows-true : (front b : ℕ) → follows front b ≡ true → Follows front b
follows-true front b e =
    let p = both_true (leb 48 b && leb b 57 && ltb front 1000) (ltb 0 front || ltb 48 b) e in
    let q = both_true (leb 48 b && leb b 57) (ltb front 1000) p.0 in
    let r = both_true (leb 48 b) (leb b 57) q.0 in
    let low = leb-true 48 b r.0 in
    record {
      low = low;
      high = leb-true b 57 r.1;
      few = ltb-true front 1000 q.1;
      one =
          by_cases (ltb 0 front)
          (λ t. let l = ltb-true 0 front t in omega arith)
          (λ t. let l = ltb-true 48 b (rw t at p.1) in omega arith);
    }

true-follows : (front x : ℕ) → x < 10 → front < 1000 → 1 ≤ front * 10 + x → follows front (48 + x) ≡ true
true-follows front x h few one =
    true-both
    (true-both (true-both (le-leb 48 (48 + x) (omega arith)) (le-leb (48 + x) 57 (omega arith))) (lt-ltb front 1000 few))
    (by_cases (ltb 0 front)
    (λ t. either_left (ltb 48 (48 + x)) t)
    (λ t. let l = ltb-false 0 front t in either-right (ltb 0 front) (lt-ltb 48 (48 + x) (omega arith))))

-- A number that is read after another has the digits read behind those of the other.
read-digits : (bs : List ℕ) (front k : ℕ) → 1 ≤ front → 1 ≤ k → read_after front bs ≡ k → digits front front ++ bs ≡ digits k k
unfolding read_after
read-digits [] front k one some? e = append-nil (digits front front) ∙ ap (λ (n : ℕ). digits n n) e
read-digits (b ∷ bs) front k one some? e =
    by_cases (follows front b)
    (λ q.
    let f = follows-true front b q in
    let low = f.low in
    let next = front * 10 + (b - 48) in
    sym (append_assoc (digits front front) (b ∷ []) bs)
    ∙ ap (λ (l : List ℕ). l ++ bs) (sym (digits-follow front b one low f.high))
    ∙ read-digits bs next k (omega arith) some? (rw q at e))
    (λ q. absurd (omega (arith, rw q at e)))

read_first : (bs : List ℕ) (k : ℕ) → 1 ≤ k → read_after 0 bs ≡ k → bs ≡ digits k k
unfolding read_after
read_first [] k some? e = absurd (omega arith)
read_first (b ∷ bs) k some? e =
    by_cases (follows 0 b)
    (λ q.
    let f = follows-true 0 b q in
    let low = f.low in
    let high = f.high in
    let one = f.one in
    let d : 48 + (b - 48) ≡ b = omega arith in
    let first : digits (b - 48) (b - 48) ≡ b ∷ [] = digits_last (b - 48) (omega arith) ∙ ap (λ (x : ℕ). x ∷ []) d in
    let z : 0 * 10 + (b - 48) ≡ b - 48 = omega arith in
    let rest : read_after (0 * 10 + (b - 48)) bs ≡ k = rw q at e in
    ap (λ (l : List ℕ). l ++ bs) (sym first)
    ∙ read-digits bs (b - 48) k (omega arith) some? (ap (λ (n : ℕ). read_after n bs) (sym z) ∙ rest))
    (λ q. absurd (omega (arith, rw q at e)))

-- One digit more at the end.
read-append : (bs : List ℕ) (front m x : ℕ) → read_after front bs ≡ m → 1 ≤ m → m < 1000 → x < 10 → read_after front (bs ++ (48 + x) ∷ []) ≡ m * 10 + x
unfolding read_after
read-append [] front m x e some? few h =
    let d : 48 + x - 48 ≡ x = omega arith in
    rw (true-follows front x h (omega arith) (omega arith), d, e) refl
read-append (b ∷ bs) front m x e some? few h =
    by_cases (follows front b)
    (λ q. rw q (read-append bs (front * 10 + (b - 48)) m x (rw q at e) some? few h))
    (λ q. absurd (omega (arith, rw q at e)))

read_all : (steps k : ℕ) → k ≤ steps → 1 ≤ k → k < 10000 → read_after 0 (digits k k) ≡ k
unfolding read_after
read_all zero k h one few = absurd (omega arith)
read_all (suc steps) k h one few =
    by_cases (ltb k 10)
    (λ q.
    let small = ltb-true k 10 q in
    let z : 0 * 10 + (48 + k - 48) ≡ k = omega arith in
    rw (digits_last k small, true-follows 0 k small (omega arith) (omega arith)) z)
    (λ q.
    let big = ltb-false k 10 q in
    ap (read_after 0) (digits_more k big)
    ∙ read-append (digits (k / 10) (k / 10)) 0 (k / 10) (k % 10) (read_all steps (k / 10) (omega arith) (omega arith) (omega arith)) (omega arith) (omega arith) (omega arith)
    ∙ omega arith)

-- A list that starts with two bytes.
starts : (name : List ℕ) → take 2 name ≡ 78 ∷ 83 ∷ [] → name ≡ 78 ∷ 83 ∷ drop 2 name
starts name e = sym (take-append-drop 2 name) ∙ ap (λ (l : List ℕ). l ++ drop 2 name) e

number-prefix : (k : ℕ) → 1 ≤ k → k < 10000 → number_of (numbered_prefix k) ≡ k
unfolding number_of numbered_prefix
number-prefix k one few = read_all k k (le_refl k) one few

prefix-number : (name : List ℕ) (k : ℕ) → 1 ≤ k → number_of name ≡ k → name ≡ numbered_prefix k
unfolding number_of numbered_prefix
prefix-number name k one e =
    by_cases (same_bytes (take 2 name) (78 ∷ 83 ∷ []))
    (λ q.
    starts name (same_bytes-equal (take 2 name) (78 ∷ 83 ∷ []) q)
    ∙ ap (λ (l : List ℕ). 78 ∷ 83 ∷ l) (read_first (drop 2 name) k one (rw q at e)))
    (λ q. absurd (omega (arith, rw q at e)))

-- The name is NSk exactly if k is the number read from it.
pub number_same : (name : List ℕ) (k : ℕ) → 1 ≤ k → k < 10000 → same_bytes name (numbered_prefix k) ≡ eqb (number_of name) k
number_same name k one few =
    by_cases (eqb (number_of name) k)
    (λ q. equal-same_bytes (prefix-number name k one (eqb-true (number_of name) k q)) ∙ sym q)
    (λ q.
    unequal-same_bytes name (numbered_prefix k)
    (λ e. eqb-false (number_of name) k q (ap number_of e ∙ number-prefix k one few))
    ∙ sym q)

-- The code's ways: too short, another start, and the bytes that are left.
module _ (name : List ℕ) where
  pub number_short : length name < 2 → number_of name ≡ 0
  unfolding number_of
  number_short h = go name h
    where
      go : (l : List ℕ) → length l < 2 → cond (same_bytes (take 2 l) (78 ∷ 83 ∷ [])) (read_after 0 (drop 2 l)) 0 ≡ 0
      go [] h = refl
      go (a ∷ []) h = by_cases (eqb a 78) (λ q. rw q refl) (λ q. rw q refl)
      go (a ∷ b ∷ l) h = absurd (omega arith)

  take-two : 2 ≤ length name → take 2 name ≡ get_or name 0 0 ∷ get_or name 1 0 ∷ []
  take-two h = go name h
    where
      go : (l : List ℕ) → 2 ≤ length l → take 2 l ≡ get_or l 0 0 ∷ get_or l 1 0 ∷ []
      go [] h = absurd (omega arith)
      go (a ∷ []) h = absurd (omega arith)
      go (a ∷ b ∷ l) h = refl

  module _ (long : 2 ≤ length name) where
    pub number-other : (get_or name 0 0 ≡ 78 → ⊥) → number_of name ≡ 0
    unfolding number_of
    number-other h = rw (take-two long, ne_eqb (get_or name 0 0) 78 h) refl

    pub number-other-second : (get_or name 1 0 ≡ 83 → ⊥) → number_of name ≡ 0
    unfolding number_of
    number-other-second h =
        by_cases (eqb (get_or name 0 0) 78)
        (λ q. rw (take-two long, q, ne_eqb (get_or name 1 0) 83 h) refl)
        (λ q. rw (take-two long, q) refl)

    pub number-start : get_or name 0 0 ≡ 78 → get_or name 1 0 ≡ 83 → read_after 0 (drop 2 name) ≡ number_of name
    unfolding number_of
    number-start p q = rw (take-two long, p, q) refl

  module _ (front i : ℕ) where
    pub read-end : length name ≤ i → read_after front (drop i name) ≡ front
    unfolding read_after
    read-end past = rw (drop_of_length-le name past) refl

    module _ (less : i < length name) where
      pub read-fails : follows front (get_or name i 0) ≡ false → read_after front (drop i name) ≡ 0
      unfolding read_after
      read-fails q = rw (drop-cons name i 0 less, q) refl

      pub read_step : follows front (get_or name i 0) ≡ true → read_after (front * 10 + (get_or name i 0 - 48)) (drop (i + 1) name) ≡ read_after front (drop i name)
      unfolding read_after
      read_step q = rw (add-one, drop-cons name i 0 less, q) refl

-- What the next digit makes of the number.
pub follows-small : (front b : ℕ) → follows front b ≡ true → (48 ≤ b) × (front * 10 + (b - 48) < 10000)
follows-small front b q =
    let f = follows-true front b q in
    let low = f.low in
    let high = f.high in
    let few = f.few in
    (low, omega arith)
