-- In well-formed UTF-8 the two ways to say it are one.
-- Assumes nothing.
use Prim.Native.Nat.{ℕ, suc, ◌+◌, ◌-◌, ◌/◌, ◌%◌, ◌≤◌, ◌<◌}
use mathlib.Core.Path.{◌≡◌, refl, sym, ◌∙◌, ap}
use mathlib.Core.Bool.{Bool, true, false, ◌&&◌, ◌||◌, not, and-false, or-false}
use mathlib.Core.List.{List, [], ◌∷◌, ◌++◌}
use native.Mathlib.Omega.{arith}
use native.Mathlib.Numerals.{add-one}
use lib.ListN.{length, get_or, drop, length-drop, drop_of_length-le}
use lib.Seq.{drop-cons}
use lib.Dec.{eqb, ltb, leb}
use borrow.Author.Tests.{eqb-true, eqb-false, eq-eqb, ne_eqb, ltb-true, ltb-false, lt-ltb, le-ltb, leb-true}
use Rattle.rules.specs.Lists.{any_of, all_of, gathered}
use Rattle.rules.specs.Utf8.{is_scalar, sequence, encoded, decoded, well_formed}
use Rattle.rules.proofs.Lists.{by_cases, both_true, not-true}
use Rattle.rules.proofs.Utf8.{encoded-decoded, decoded-scalars}
use Rattle.characters.specs.Characters.{is_control, is_forbidden, holds_forbidden, is_second, starts_forbidden, forbidden_from, is_harmless}

-- A byte from 32 that is not 0xEF starts none.
passes : (b : ℕ) (rest : List ℕ) → 32 ≤ b → (b ≡ 0xEF → ⊥) → forbidden_from (b ∷ rest) ≡ forbidden_from rest
unfolding forbidden_from
passes b rest h n = rw (le-ltb b 32 h, ne_eqb b 0xEF n) refl

-- A character that is not forbidden.
allowed : (c : ℕ) → 32 ≤ c → (c ≡ 0xFFFE → ⊥) → (c ≡ 0xFFFF → ⊥) → is_forbidden c ≡ false
allowed c h n m = rw (le-ltb c 32 h, ne_eqb c 0xFFFE n, ne_eqb c 0xFFFF m) refl

-- Each sequence, by its length.
module _ (c : ℕ) (rest : List ℕ) where
  one : c < 0x80 → forbidden_from (sequence c ++ rest) ≡ (is_forbidden c || forbidden_from rest)
  unfolding sequence forbidden_from
  one h = rw (lt-ltb c 0x80 h, ne_eqb c 0xEF (λ e. omega arith), ne_eqb c 0xFFFE (λ e. omega arith), ne_eqb c 0xFFFF (λ e. omega arith)) refl

  two : 0x80 ≤ c → c < 0x800 → forbidden_from (sequence c ++ rest) ≡ (is_forbidden c || forbidden_from rest)
  unfolding sequence
  two l h =
      rw (le-ltb c 0x80 l, lt-ltb c 0x800 h, allowed c (omega arith) (λ e. omega arith) (λ e. omega arith))
      (passes (0xC0 + c / 64) ((0x80 + c % 64) ∷ rest) (omega arith) (λ e. omega arith)
      ∙ passes (0x80 + c % 64) rest (omega arith) (λ e. omega arith))

  three-low : 0x800 ≤ c → c < 0xF000 → forbidden_from (sequence c ++ rest) ≡ (is_forbidden c || forbidden_from rest)
  unfolding sequence
  three-low l h =
      rw (le-ltb c 0x80 (omega arith), le-ltb c 0x800 l, lt-ltb c 0x10000 (omega arith), allowed c (omega arith) (λ e. omega arith) (λ e. omega arith))
      (passes (0xE0 + c / 4096) ((0x80 + c / 64 % 64) ∷ (0x80 + c % 64) ∷ rest) (omega arith) (λ e. omega arith)
      ∙ passes (0x80 + c / 64 % 64) ((0x80 + c % 64) ∷ rest) (omega arith) (λ e. omega arith)
      ∙ passes (0x80 + c % 64) rest (omega arith) (λ e. omega arith))

  four : 0x10000 ≤ c → c ≤ 0x10FFFF → forbidden_from (sequence c ++ rest) ≡ (is_forbidden c || forbidden_from rest)
  unfolding sequence
  four l h =
      rw (le-ltb c 0x80 (omega arith), le-ltb c 0x800 (omega arith), le-ltb c 0x10000 l, allowed c (omega arith) (λ e. omega arith) (λ e. omega arith))
      (passes (0xF0 + c / 262144) ((0x80 + c / 4096 % 64) ∷ (0x80 + c / 64 % 64) ∷ (0x80 + c % 64) ∷ rest) (omega arith) (λ e. omega arith)
      ∙ passes (0x80 + c / 4096 % 64) ((0x80 + c / 64 % 64) ∷ (0x80 + c % 64) ∷ rest) (omega arith) (λ e. omega arith)
      ∙ passes (0x80 + c / 64 % 64) ((0x80 + c % 64) ∷ rest) (omega arith) (λ e. omega arith)
      ∙ passes (0x80 + c % 64) rest (omega arith) (λ e. omega arith))

  -- the last plane of three bytes, where the two stand
  last : 0xF000 ≤ c → c < 0x10000 → (eqb (0x80 + c / 64 % 64) 0xBF && (eqb (0x80 + c % 64) 0xBE || (eqb (0x80 + c % 64) 0xBF || false))) ≡ is_forbidden c
  last l h =
      by_cases (eqb c 0xFFFE)
      (λ q. let e = eqb-true c 0xFFFE q in rw e refl)
      (λ q.
      by_cases (eqb c 0xFFFF)
      (λ t. let e = eqb-true c 0xFFFF t in rw e refl)
      (λ t. rw (allowed c (omega arith) (eqb-false c 0xFFFE q) (eqb-false c 0xFFFF t)) (neither (eqb-false c 0xFFFE q) (eqb-false c 0xFFFF t))))
    where
      neither : (c ≡ 0xFFFE → ⊥) → (c ≡ 0xFFFF → ⊥) → (eqb (0x80 + c / 64 % 64) 0xBF && (eqb (0x80 + c % 64) 0xBE || (eqb (0x80 + c % 64) 0xBF || false))) ≡ false
      neither n m =
          by_cases (eqb (0x80 + c / 64 % 64) 0xBF)
          (λ q.
          let e = eqb-true (0x80 + c / 64 % 64) 0xBF q in
          rw (q, ne_eqb (0x80 + c % 64) 0xBE (λ z. n (omega arith)), ne_eqb (0x80 + c % 64) 0xBF (λ z. m (omega arith))) refl)
          (λ q. rw q refl)

  three-high : 0xF000 ≤ c → c < 0x10000 → forbidden_from (sequence c ++ rest) ≡ (is_forbidden c || forbidden_from rest)
  unfolding sequence forbidden_from
  three-high l h =
      let first : 0xE0 + c / 4096 ≡ 0xEF = omega arith in
      let starts : starts_forbidden ((0xE0 + c / 4096) ∷ (0x80 + c / 64 % 64) ∷ (0x80 + c % 64) ∷ rest) ≡ is_forbidden c = rw first (last l h) in
      rw (le-ltb c 0x80 (omega arith), le-ltb c 0x800 (omega arith), lt-ltb c 0x10000 h)
      (ap (λ (t : Bool). t || forbidden_from ((0x80 + c / 64 % 64) ∷ (0x80 + c % 64) ∷ rest)) starts
      ∙ ap (λ (t : Bool). is_forbidden c || t)
      (passes (0x80 + c / 64 % 64) ((0x80 + c % 64) ∷ rest) (omega arith) (λ e. omega arith) ∙ passes (0x80 + c % 64) rest (omega arith) (λ e. omega arith)))

  most : is_scalar c ≡ true → 0xD800 ≤ c → c ≤ 0x10FFFF
  most s l = leb-true c 0x10FFFF (both_true (leb 0xE000 c) (leb c 0x10FFFF) (rw (le-ltb c 0xD800 l) at s)).1

  character : is_scalar c ≡ true → forbidden_from (sequence c ++ rest) ≡ (is_forbidden c || forbidden_from rest)
  character s =
      by_cases (ltb c 0x80) (λ q. one (ltb-true c 0x80 q)) (λ q1. let l1 = ltb-false c 0x80 q1 in
      by_cases (ltb c 0x800) (λ q. two l1 (ltb-true c 0x800 q)) (λ q2. let l2 = ltb-false c 0x800 q2 in
      by_cases (ltb c 0xF000) (λ q. three-low l2 (ltb-true c 0xF000 q)) (λ q3. let l3 = ltb-false c 0xF000 q3 in
      by_cases (ltb c 0x10000) (λ q. three-high l3 (ltb-true c 0x10000 q)) (λ q4. let l4 = ltb-false c 0x10000 q4 in
      four l4 (most s (omega arith))))))

encoded-forbidden : (cs : List ℕ) → all_of is_scalar cs ≡ true → forbidden_from (encoded cs) ≡ any_of is_forbidden cs
unfolding encoded forbidden_from
encoded-forbidden [] s = refl
encoded-forbidden (c ∷ cs) s =
    let k = both_true (is_scalar c) (all_of is_scalar cs) s in
    character c (gathered sequence cs) k.0 ∙ ap (λ (t : Bool). is_forbidden c || t) (encoded-forbidden cs k.1)

-- In well-formed bytes a forbidden character is one of these bytes.
pub forbidden-bytes : (value : List ℕ) → well_formed value ≡ true → forbidden_from value ≡ holds_forbidden value
unfolding holds_forbidden
forbidden-bytes value w =
    ap forbidden_from (sym (encoded-decoded value w)) ∙ encoded-forbidden (decoded value) (decoded-scalars value w)

-- The bytes from i on decide.
module _ (value : List ℕ) (i : ℕ) where
  pub forbidden-there : i < length value → starts_forbidden (drop i value) ≡ true → forbidden_from (drop i value) ≡ true
  unfolding forbidden_from
  forbidden-there h e =
      ap forbidden_from (drop-cons value i 0 h) ∙ ap (λ (t : Bool). t || forbidden_from (drop (suc i) value)) (sym (ap starts_forbidden (drop-cons value i 0 h)) ∙ e)

  pub forbidden-next : i < length value → starts_forbidden (drop i value) ≡ false → forbidden_from (drop (i + 1) value) ≡ forbidden_from (drop i value)
  unfolding forbidden_from
  forbidden-next h e =
      ap (λ (k : ℕ). forbidden_from (drop k value)) (add-one i)
      ∙ sym (ap forbidden_from (drop-cons value i 0 h) ∙ ap (λ (t : Bool). t || forbidden_from (drop (suc i) value)) (sym (ap starts_forbidden (drop-cons value i 0 h)) ∙ e))

  pub forbidden-end : length value ≤ i → forbidden_from (drop i value) ≡ false
  unfolding forbidden_from
  forbidden-end h = rw (drop_of_length-le value h) refl

-- Bytes that are all harmless.
pub harmless : (value : List ℕ) → all_of is_harmless value ≡ true → forbidden_from value ≡ false
unfolding forbidden_from
harmless [] h = refl
harmless (b ∷ bs) h =
    let k = both_true (is_harmless b) (all_of is_harmless bs) h in
    let n = both_true (not (is_control b)) (not (eqb b 0xEF)) k.0 in
    rw (not-true (is_control b) n.0, not-true (eqb b 0xEF) n.1) (harmless bs k.1)

second_short : (l : List ℕ) → length l < 2 → is_second l ≡ false
second_short [] h = refl
second_short (x ∷ []) h = and-false (eqb x 0xBF)
second_short (x ∷ y ∷ l) h = absurd (omega arith)

-- What starts at byte i, test by test.
module _ (value : List ℕ) (i : ℕ) (h : i < length value) where
  pub starts-control : is_control (get_or value i 0) ≡ true → starts_forbidden (drop i value) ≡ true
  starts-control e = rw (drop-cons value i 0 h, e) refl

  pub starts_other : is_control (get_or value i 0) ≡ false → (get_or value i 0 ≡ 0xEF → ⊥) → starts_forbidden (drop i value) ≡ false
  starts_other e n = rw (drop-cons value i 0 h, e, ne_eqb (get_or value i 0) 0xEF n) refl

  pub starts-cut : is_control (get_or value i 0) ≡ false → length value - i < 3 → starts_forbidden (drop i value) ≡ false
  starts-cut e s =
      let short : length (drop (suc i) value) < 2 = rw length-drop (omega arith) in
      rw (drop-cons value i 0 h, e, second_short (drop (suc i) value) short) (and-false (eqb (get_or value i 0) 0xEF))

  pub starts-whole : is_control (get_or value i 0) ≡ false → get_or value i 0 ≡ 0xEF → 3 ≤ length value - i → starts_forbidden (drop i value) ≡ (eqb (get_or value (i + 1) 0) 0xBF && (eqb (get_or value (i + 2) 0) 0xBE || eqb (get_or value (i + 2) 0) 0xBF))
  starts-whole e f s =
      let n : i + 2 ≡ suc (suc i) = omega arith in
      let rest : drop (suc i) value ≡ get_or value (suc i) 0 ∷ get_or value (suc (suc i)) 0 ∷ drop (suc (suc (suc i))) value =
      drop-cons value (suc i) 0 (omega arith) ∙ ap (λ (l : List ℕ). get_or value (suc i) 0 ∷ l) (drop-cons value (suc (suc i)) 0 (omega arith)) in
      rw (add-one, n, drop-cons value i 0 h, e, eq-eqb (get_or value i 0) 0xEF f, rest, or-false (eqb (get_or value (suc (suc i)) 0) 0xBF)) refl
