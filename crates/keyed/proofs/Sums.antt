-- Laws of specs/Keyed.antt: the polynomial of a part is that of the bytes up to its end less that of the bytes before it.
-- Assumes nothing.
use Prim.Native.Nat.{ℕ, zero, suc, ◌+◌, ◌*◌, ◌-◌, ◌/◌, ◌%◌, ◌≤◌, ◌<◌}
use mathlib.Core.Path.{◌≡◌, refl, sym, ◌∙◌, ap}
use mathlib.Core.List.{List, [], ◌∷◌, ◌++◌}
use native.Mathlib.Nat.{mod-add-div, mod-lt, mod-add-mod, add-mod-mod, add-mul-mod_self_left, add-mul, mul_assoc, mul_comm, mul-one, add_comm, mul-le-mul, mod-eq_of_lt, add-zero, zero-mul, zero-add, suc-add, add_assoc}
use native.Mathlib.Omega.{arith}
use native.Mathlib.Numerals.{add-one}
use lib.ListN.{length, get_or, take, drop, length-drop, drop_of_length-le}
use lib.Seq.{drop-cons, length-take-le}
use Rattle.std.specs.Simd.{first_chunks}
use Rattle.std.proofs.lemmas.List.{get_or-drop}
use Rattle.keyed.specs.Keyed.{PRIME, pushed, between, sum_from, raised_from}

-- A factor may be reduced first.
mod_times : (x y : ℕ) → (x % PRIME * y) % PRIME ≡ (x * y) % PRIME
mod_times x y =
    sym (ap (λ (z : ℕ). (z * y) % PRIME) (sym (mod-add-div x PRIME))
    ∙ ap (λ (z : ℕ). z % PRIME) (add-mul (x % PRIME) (PRIME * (x / PRIME)) y ∙ ap (λ (z : ℕ). x % PRIME * y + z) (mul_assoc PRIME (x / PRIME) y))
    ∙ add-mul-mod_self_left (x % PRIME * y) PRIME (x / PRIME * y))

-- And so may both terms of a sum.
mod-sum : (x y : ℕ) → (x % PRIME + y % PRIME) % PRIME ≡ (x + y) % PRIME
mod-sum x y = add-mod-mod (x % PRIME) y PRIME ∙ mod-add-mod x PRIME y

pub pushed-lt : (base h c : ℕ) → pushed base h c < PRIME
unfolding pushed
pushed-lt base h c = mod-lt (h * base + c) (omega arith)

pub sum_lt : (base h : ℕ) (bs : List ℕ) → h < PRIME → sum_from base h bs < PRIME
unfolding sum_from
sum_lt base h [] l = l
sum_lt base h (b ∷ bs) l = sum_lt base (pushed base h (b + 1)) bs (pushed-lt base h (b + 1))

pub raised_lt : (base h n : ℕ) → h < PRIME → raised_from base h n < PRIME
unfolding raised_from
raised_lt base h zero l = l
raised_lt base h (suc n) l = raised_lt base (pushed base h 0) n (pushed-lt base h 0)

-- Bytes end to end.
pub sum-append : (base h : ℕ) (xs bs : List ℕ) → sum_from base h (xs ++ bs) ≡ sum_from base (sum_from base h xs) bs
unfolding sum_from
sum-append base h [] bs = refl
sum-append base h (x ∷ xs) bs = sum-append base (pushed base h (x + 1)) xs bs

module _ (base : ℕ) where
  -- A step of a sum, and the sum of steps.
  pushed-sum : (x y : ℕ) → pushed base ((x + y) % PRIME) 0 ≡ (pushed base x 0 + pushed base y 0) % PRIME
  unfolding pushed
  pushed-sum x y =
      rw (add-zero, add-zero, add-zero)
      (mod_times (x + y) base ∙ ap (λ (z : ℕ). z % PRIME) (add-mul x y base) ∙ sym (mod-sum (x * base) (y * base)))

  pushed-term : (h c : ℕ) → pushed base h c ≡ (pushed base h 0 + pushed base 0 c) % PRIME
  unfolding pushed
  pushed-term h c = rw (add-zero, zero-mul, zero-add) (sym (mod-sum (h * base) c))

  raised-sum : (n x y : ℕ) → raised_from base ((x + y) % PRIME) n ≡ (raised_from base x n + raised_from base y n) % PRIME
  unfolding raised_from
  raised-sum zero x y = refl
  raised-sum (suc n) x y =
      ap (λ (h : ℕ). raised_from base h n) (pushed-sum x y) ∙ raised-sum n (pushed base x 0) (pushed base y 0)

  raised-next : (n h : ℕ) → raised_from base (pushed base h 0) n ≡ pushed base (raised_from base h n) 0
  unfolding raised_from
  raised-next zero h = refl
  raised-next (suc n) h = raised-next n (pushed base h 0)

  -- What stands before counts by the power of the length of what follows.
  pub shifted : (h : ℕ) (bs : List ℕ) → h < PRIME → sum_from base h bs ≡ (raised_from base h (length bs) + sum_from base 0 bs) % PRIME
  unfolding sum_from raised_from
  shifted h [] l = sym (rw add-zero (mod-eq_of_lt l))
  shifted h (b ∷ bs) l =
      let n = length bs in
      let S = sum_from base 0 bs in
      let x = pushed base h 0 in
      let y = pushed base 0 (b + 1) in
      shifted (pushed base h (b + 1)) bs (pushed-lt base h (b + 1))
      ∙ ap (λ (z : ℕ). (raised_from base z n + S) % PRIME) (pushed-term h (b + 1))
      ∙ ap (λ (z : ℕ). (z + S) % PRIME) (raised-sum n x y)
      ∙ mod-add-mod (raised_from base x n + raised_from base y n) PRIME S
      ∙ ap (λ (z : ℕ). z % PRIME) (add_assoc (raised_from base x n) (raised_from base y n) S)
      ∙ sym (add-mod-mod (raised_from base x n) (raised_from base y n + S) PRIME)
      ∙ ap (λ (z : ℕ). (raised_from base x n + z) % PRIME) (sym (shifted y bs (pushed-lt base 0 (b + 1))))

  -- A power is a factor.
  pub raised-times : (n h : ℕ) → h < PRIME → pushed (raised_from base 1 n) h 0 ≡ raised_from base h n
  unfolding pushed raised_from
  raised-times zero h l = rw (mul-one, add-zero) (mod-eq_of_lt l)
  raised-times (suc n) h l =
      let p = raised_from base 1 n in
      let one : raised_from base (pushed base 1 0) n ≡ (p * base + 0) % PRIME = raised-next n 1 in
      let all : (h * p + 0) % PRIME ≡ raised_from base h n = raised-times n h l in
      rw add-zero
      (ap (λ (z : ℕ). (h * z) % PRIME) (one ∙ ap (λ (z : ℕ). z % PRIME) (add-zero (p * base)))
      ∙ ap (λ (z : ℕ). z % PRIME) (mul_comm h (p * base % PRIME))
      ∙ mod_times (p * base) h
      ∙ ap (λ (z : ℕ). z % PRIME) (mul_comm (p * base) h ∙ sym (mul_assoc h p base))
      ∙ sym (mod_times (h * p) base)
      ∙ ap (λ (z : ℕ). (z * base) % PRIME) (ap (λ (z : ℕ). z % PRIME) (sym (add-zero (h * p))) ∙ all)
      ∙ ap (λ (z : ℕ). z % PRIME) (sym (add-zero (raised_from base h n * base)))
      ∙ sym (raised-next n h))

  -- The part, from the whole and from what stands before.
  taken-off : (a s : ℕ) → a < PRIME → s < PRIME → ((a + s) % PRIME + PRIME - a) % PRIME ≡ s
  taken-off a s h l = omega arith

  pub part-sum :
      (before : ℕ) (bs : List ℕ) → before < PRIME
      → (sum_from base before bs + PRIME - pushed (raised_from base 1 (length bs)) before 0) % PRIME ≡ sum_from base 0 bs
  part-sum before bs l =
      let a = raised_from base before (length bs) in
      ap (λ (z : ℕ). (sum_from base before bs + PRIME - z) % PRIME) (raised-times (length bs) before l)
      ∙ ap (λ (z : ℕ). (z + PRIME - a) % PRIME) (shifted before bs l)
      ∙ taken-off a (sum_from base 0 bs) (raised_lt base before (length bs) l) (sum_lt base 0 bs (omega arith))

  -- Step by step.
  pub raised-step : (h n : ℕ) → 0 < n → raised_from base (pushed base h 0) (n - 1) ≡ raised_from base h n
  unfolding raised_from
  raised-step h zero l = absurd (omega arith)
  raised-step h (suc n) l = let e : suc n - 1 ≡ n = omega arith in rw e refl

  pub raised-done : (h n : ℕ) → n ≤ 0 → raised_from base h n ≡ h
  unfolding raised_from
  raised-done h zero l = refl
  raised-done h (suc n) l = absurd (omega arith)

  -- Half as often by the square.
  pushed-square : (h : ℕ) → pushed (pushed base base 0) h 0 ≡ pushed base (pushed base h 0) 0
  unfolding pushed
  pushed-square h =
      rw (add-zero, add-zero, add-zero, add-zero)
      (ap (λ (z : ℕ). z % PRIME) (mul_comm h (base * base % PRIME))
      ∙ mod_times (base * base) h
      ∙ ap (λ (z : ℕ). z % PRIME) (mul_comm (base * base) h ∙ sym (mul_assoc h base base))
      ∙ sym (mod_times (h * base) base))

  raised-twice : (n h : ℕ) → raised_from (pushed base base 0) h n ≡ raised_from base h (n + n)
  unfolding raised_from
  raised-twice zero h = refl
  raised-twice (suc n) h =
      ap (λ (x : ℕ). raised_from (pushed base base 0) x n) (pushed-square h)
      ∙ raised-twice n (pushed base (pushed base h 0) 0)
      ∙ ap (λ (k : ℕ). raised_from base (pushed base h 0) k) (sym (suc-add n n) ∙ add_comm (suc n) n)
      ∙ ap (λ (k : ℕ). raised_from base h k) (sym (suc-add n (suc n)))

  raised-append : (m n h : ℕ) → raised_from base (raised_from base h m) n ≡ raised_from base h (m + n)
  unfolding raised_from
  raised-append zero n h = rw zero-add refl
  raised-append (suc m) n h = rw suc-add (raised-append m n (pushed base h 0))

  pub raised-halved : (h n : ℕ) → raised_from (pushed base base 0) (raised_from base h (n % 2)) (n / 2) ≡ raised_from base h n
  raised-halved h n =
      let all : n % 2 + (n / 2 + n / 2) ≡ n = omega arith in
      raised-twice (n / 2) (raised_from base h (n % 2)) ∙ raised-append (n % 2) (n / 2 + n / 2) h ∙ ap (raised_from base h) all

  pub raised-even : (h n : ℕ) → n % 2 ≡ 0 → h ≡ raised_from base h (n % 2)
  raised-even h n even = sym (raised-done h (n % 2) (omega arith))

  pub raised-odd : (h n : ℕ) → (n % 2 ≡ 0 → ⊥) → pushed base h 0 ≡ raised_from base h (n % 2)
  raised-odd h n odd =
      sym (raised-done (pushed base h 0) (n % 2 - 1) (omega arith)) ∙ raised-step h (n % 2) (omega arith)

  pub sum_step : (h i : ℕ) (bs : List ℕ) → i < length bs → sum_from base (pushed base h (get_or bs i 0 + 1)) (drop (i + 1) bs) ≡ sum_from base h (drop i bs)
  unfolding sum_from
  sum_step h i bs l =
      ap (λ (k : ℕ). sum_from base (pushed base h (get_or bs i 0 + 1)) (drop k bs)) (add-one i) ∙ sym (ap (sum_from base h) (drop-cons bs i 0 l))

  pub sum_done : (h i : ℕ) (bs : List ℕ) → length bs ≤ i → sum_from base h (drop i bs) ≡ h
  unfolding sum_from
  sum_done h i bs l = rw (drop_of_length-le bs l) refl

  pub sum-last :
      (h i : ℕ) (bs : List ℕ) → i < length bs → length bs ≤ i + 1 → {b r : ℕ} → b ≡ get_or bs i 0 → r ≡ pushed base h (b + 1)
      → r ≡ sum_from base h (drop i bs)
  sum-last h i bs l e f g =
      g ∙ ap (λ (x : ℕ). pushed base h (x + 1)) f ∙ sym (sum_done (pushed base h (get_or bs i 0 + 1)) (i + 1) bs e) ∙ sum_step h i bs l

-- Products of two words of 32 bits.
pub product : (a b : ℕ) → a < 4294967296 → b < 4294967296 → a * b ≤ 18446744065119617025
product a b h l = mul-le-mul {n₂ = 4294967295} {m₂ = 4294967295} (omega arith) (omega arith)

pub told : (base h c : ℕ) → ((h * base + c) % 4294967087 ≡ pushed base h c) × ((h * base + c) % 4294967087 < PRIME)
unfolding pushed
told base h c = (refl, mod-lt (h * base + c) (omega arith))

-- Two steps at once.
pub pushed-two : (base h c d : ℕ) → (h * pushed base base 0 + c * base + d) % PRIME ≡ pushed base (pushed base h c) d
unfolding pushed
pushed-two base h c d =
    let S = base * base in
    let X = c * base + d in
    let square : (h * (S % PRIME)) % PRIME ≡ (h * S) % PRIME =
    ap (λ (z : ℕ). z % PRIME) (mul_comm h (S % PRIME)) ∙ mod_times S h ∙ ap (λ (z : ℕ). z % PRIME) (mul_comm S h) in
    let steps : ((h * base + c) % PRIME * base + d) % PRIME ≡ (h * S + X) % PRIME =
    sym (mod-add-mod ((h * base + c) % PRIME * base) PRIME d)
    ∙ ap (λ (z : ℕ). (z + d) % PRIME) (mod_times (h * base + c) base)
    ∙ mod-add-mod ((h * base + c) * base) PRIME d
    ∙ ap (λ (z : ℕ). (z + d) % PRIME) (add-mul (h * base) c base)
    ∙ ap (λ (z : ℕ). z % PRIME) (add_assoc (h * base * base) (c * base) d)
    ∙ ap (λ (z : ℕ). (z + X) % PRIME) (mul_assoc h base base) in
    ap (λ (z : ℕ). (h * (z % PRIME) + c * base + d) % PRIME) (add-zero S)
    ∙ ap (λ (z : ℕ). z % PRIME) (add_assoc (h * (S % PRIME)) (c * base) d)
    ∙ sym (mod-add-mod (h * (S % PRIME)) PRIME X)
    ∙ ap (λ (z : ℕ). (z + X) % PRIME) square
    ∙ mod-add-mod (h * S) PRIME X
    ∙ sym steps

pub told-two :
    (base square h c d : ℕ) → square ≡ pushed base base 0
    → ((h * square + c * base + d) % 4294967087 ≡ pushed base (pushed base h c) d) × ((h * square + c * base + d) % 4294967087 < PRIME)
told-two base square h c d e =
    (ap (λ (z : ℕ). (h * z + c * base + d) % PRIME) e ∙ pushed-two base h c d, mod-lt (h * square + c * base + d) (omega arith))

pub sum-two :
    (base h i : ℕ) (bs : List ℕ) → i + 1 < length bs
    → sum_from base (pushed base (pushed base h (get_or bs i 0 + 1)) (get_or bs (i + 1) 0 + 1)) (drop (i + 2) bs) ≡ sum_from base h (drop i bs)
sum-two base h i bs l =
    let next = pushed base h (get_or bs i 0 + 1) in
    let n : i + 2 ≡ i + 1 + 1 = omega arith in
    ap (λ (k : ℕ). sum_from base (pushed base next (get_or bs (i + 1) 0 + 1)) (drop k bs)) n
    ∙ sum_step base next (i + 1) bs l ∙ sum_step base h i bs (omega arith)

-- Products that two steps make.
pub square-product : (a b : ℕ) → a < PRIME → b < PRIME → a * b ≤ 18446742269823331396
square-product a b h l = mul-le-mul {n₂ = 4294967086} {m₂ = 4294967086} (omega arith) (omega arith)

pub term-product : (a b : ℕ) → a ≤ 256 → b < 4294967296 → a * b ≤ 1099511627520
term-product a b h l = mul-le-mul {n₂ = 256} {m₂ = 4294967295} h (omega arith)

-- A table: what its rows tell of a part.
take_none : (b : ℕ) → take {A = ℕ} b [] ≡ []
take_none zero = refl
take_none (suc b) = refl

take-sum : (a b : ℕ) (l : List ℕ) → take (a + b) l ≡ take a l ++ take b (drop a l)
take-sum zero b l = rw zero-add refl
take-sum (suc a) b [] = rw suc-add (sym (take_none b))
take-sum (suc a) b (x ∷ xs) = rw suc-add (ap (λ (r : List ℕ). x ∷ r) (take-sum a b xs))

module _ (base : ℕ) (pool : List ℕ) where
  pub sum-taken : (h m e : ℕ) → m ≤ e → sum_from base (sum_from base h (take m pool)) (between pool m e) ≡ sum_from base h (take e pool)
  sum-taken h m e l =
      let n : m + (e - m) ≡ e = omega arith in
      sym (sum-append base h (take m pool) (between pool m e)) ∙ ap (sum_from base h) (sym (take-sum m (e - m) pool)) ∙ ap (λ (k : ℕ). sum_from base h (take k pool)) n

  -- the polynomial of a part, as the code finds it
  pub part-told :
      (start end whole before power : ℕ) → start ≤ end → end ≤ length pool → whole ≡ sum_from base 0 (take end pool) → before ≡ sum_from base 0 (take start pool)
      → power ≡ raised_from base 1 (end - start) → (whole + PRIME - pushed power before 0) % PRIME ≡ sum_from base 0 (between pool start end)
  part-told start end whole before power h l w b p =
      let x = sum_from base 0 (take start pool) in
      let lt = sum_lt base 0 (take start pool) (omega arith) in
      let n : length (between pool start end) ≡ end - start = length-take-le (end - start) (drop start pool) (rw length-drop (omega arith)) in
      let w' : whole ≡ sum_from base x (between pool start end) = w ∙ sym (sum-taken 0 start end h) in
      let p' : power ≡ raised_from base 1 (length (between pool start end)) = p ∙ ap (raised_from base 1) (sym n) in
      rw (w', b, p') (part-sum base x (between pool start end) lt)

-- The bytes up to a place, from a row.
pub until-told :
    (base : ℕ) (pool : List ℕ) (m end number from r : ℕ) → m ≤ end → from ≡ number → number ≡ sum_from base 0 (take m pool) → r ≡ sum_from base from (between pool m end)
    → (r ≡ sum_from base 0 (take end pool)) × (r < PRIME)
until-told base pool m end number from r l f n e =
    let w : r ≡ sum_from base 0 (take end pool) = e ∙ ap (λ (h : ℕ). sum_from base h (between pool m end)) (f ∙ n) ∙ sum-taken base pool 0 m end l in
    (w, rw w (sum_lt base 0 (take end pool) (omega arith)))

-- The pairs of bytes that a string begins with.
pub pair-at :
    (bs : List ℕ) (k i : ℕ) → i < k
    → (get_or (get_or (first_chunks 2 k bs) i []) 0 0 ≡ get_or bs (2 * i) 0) × (get_or (get_or (first_chunks 2 k bs) i []) 1 0 ≡ get_or bs (2 * i + 1) 0)
pair-at bs zero i h = absurd (omega arith)
pair-at [] (suc k) zero h = (refl, refl)
pair-at (b ∷ []) (suc k) zero h = (refl, refl)
pair-at (b ∷ c ∷ bs) (suc k) zero h = (refl, refl)
pair-at bs (suc k) (suc i) h =
    let more : 2 * suc i ≡ 2 + 2 * i = omega arith in
    let rest = pair-at (drop 2 bs) k i (omega arith) in
    let next : 2 * suc i + 1 ≡ 2 + (2 * i + 1) = omega arith in
    (rw more (rest.0 ∙ get_or-drop 2 bs (2 * i) 0), rw next (rest.1 ∙ get_or-drop 2 bs (2 * i + 1) 0))

-- The byte behind the pairs.
pub odd-byte :
    (bs : List ℕ) (i : ℕ) {rest : List ℕ} {b : ℕ} → rest ≡ drop (length bs / 2 * 2) bs → 2 * i ≡ length bs / 2 * 2
    → b ≡ get_or rest 0 0 → b ≡ get_or bs (2 * i) 0
odd-byte bs i e f g =
    let place : length bs / 2 * 2 + 0 ≡ 2 * i = omega arith in
    g ∙ ap (λ l. get_or l 0 0) e ∙ get_or-drop (length bs / 2 * 2) bs 0 0 ∙ ap (λ k. get_or bs k 0) place
