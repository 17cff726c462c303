-- Laws of specs/Runs.antt: which bytes are escaped, and a value run by run.
-- Assumes nothing.
use Prim.Native.Nat.{ℕ, zero, suc, ◌+◌, ◌-◌, ◌*◌, ◌≤◌, ◌<◌}
use mathlib.Core.Path.{◌≡◌, refl, sym, ◌∙◌, ap}
use mathlib.Core.Bool.{Bool, true, false, cond, not, ◌&&◌, ◌||◌}
use mathlib.Core.List.{List, [], ◌∷◌, ◌++◌}
use mathlib.Core.Logic.{◌⊎◌, inl, inr}
use native.Mathlib.Nat.{le_of_suc-le-suc, not-suc-le-zero}
use native.Mathlib.Omega.{arith}
use lib.Bits.{bit_or}
use lib.Dec.{eqb, ltb}
use lib.ListN.{length, get_or, take, drop, length-drop, drop_of_length-le}
use lib.Seq.{take-nil, drop-cons, drop-drop, get_or-drop, length-take-le}
use mir.Val.{bool_byte}
use borrow.Author.Tests.{ne_eqb, ltb-false}
use Rattle.std.specs.List.{position, position_or_len}
use Rattle.std.specs.Option.{unwrap_or}
use Rattle.std.specs.declared.option.Option.{Option}
use Rattle.rules.specs.Lists.{all_of}
use Rattle.rules.proofs.Lists.{by_cases, both_true, true-both, not-true}
use Rattle.escapes.specs.Escapes.{is_escaped, escaped}
use Rattle.escapes.proofs.Values.{escape-none}
use Rattle.escapes.proofs.Asking.{escaped-is, nowhere}
use Rattle.runs.specs.Runs.{run, is_plain, Measured}

-- What a byte that is escaped is, as the code asks it.
reordered : (a l g q r t : Bool) → (a || (l || (g || (q || (r || t))))) ≡ ((a || q) || (l || g) || (r || t))
reordered true l g q r t = refl
reordered false true g true r t = refl
reordered false true g false r t = refl
reordered false false true true r t = refl
reordered false false true false r t = refl
reordered false false false true r t = refl
reordered false false false false r t = refl

pub escaped-asked : (quoted : Bool) (b : ℕ) → is_escaped quoted b ≡ ((eqb b 38 || eqb b 34) || (eqb b 60 || eqb b 62) || (eqb b 13 || (quoted && (eqb b 9 || eqb b 10))))
escaped-asked quoted b =
    escaped-is quoted b ∙ reordered (eqb b 38) (eqb b 60) (eqb b 62) (eqb b 34) (eqb b 13) (quoted && (eqb b 9 || eqb b 10))

-- The same by the numbers of the bytes: some end a run everywhere, two in quotes alone.
abbrev pub Everywhere : ℕ → Type 0
Everywhere b = (b ≡ 13) ⊎ ((b ≡ 34) ⊎ ((b ≡ 38) ⊎ ((b ≡ 60) ⊎ (b ≡ 62))))

pub ends-everywhere : (quoted : Bool) (b : ℕ) → Everywhere b → true ≡ is_escaped quoted b
ends-everywhere quoted b (inl e) = rw (e, escaped-is quoted 13) refl
ends-everywhere quoted b (inr (inl e)) = rw (e, escaped-is quoted 34) refl
ends-everywhere quoted b (inr (inr (inl e))) = rw (e, escaped-is quoted 38) refl
ends-everywhere quoted b (inr (inr (inr (inl e)))) = rw (e, escaped-is quoted 60) refl
ends-everywhere quoted b (inr (inr (inr (inr e)))) = rw (e, escaped-is quoted 62) refl

pub ends-in-quotes : (quoted : Bool) (b : ℕ) → (b ≡ 9) ⊎ (b ≡ 10) → quoted ≡ is_escaped quoted b
ends-in-quotes true b (inl e) = rw (e, escaped-is true 9) refl
ends-in-quotes true b (inr e) = rw (e, escaped-is true 10) refl
ends-in-quotes false b (inl e) = rw (e, escaped-is false 9) refl
ends-in-quotes false b (inr e) = rw (e, escaped-is false 10) refl

pub ends_nowhere : (quoted : Bool) (b : ℕ) → (Everywhere b → ⊥) → (b ≡ 9 → ⊥) → (b ≡ 10 → ⊥) → false ≡ is_escaped quoted b
ends_nowhere quoted b other tab feed =
    sym
    (nowhere quoted b
    (rw (escaped-is true b, ne_eqb b 38 (λ e. other (inr (inr (inl e)))), ne_eqb b 60 (λ e. other (inr (inr (inr (inl e))))), ne_eqb b 62 (λ e. other (inr (inr (inr (inr e))))), ne_eqb b 34 (λ e. other (inr (inl e))), ne_eqb b 13 (λ e. other (inl e)), ne_eqb b 9 tab, ne_eqb b 10 feed)
    refl))

module _ (quoted : Bool) where
  -- A run is what the value starts with.
  pub run-part : (l : List ℕ) → take (length (run quoted l)) l ≡ run quoted l
  unfolding run
  run-part [] = refl
  run-part (b ∷ bs) =
      by_cases (is_escaped quoted b)
      (λ e. rw e refl)
      (λ e. rw e (ap (λ (m : List ℕ). b ∷ m) (run-part bs)))

  pub run-within : (l : List ℕ) → length (run quoted l) ≤ length l
  unfolding run
  run-within [] = omega arith
  run-within (b ∷ bs) =
      by_cases (is_escaped quoted b)
      (λ e. rw e (omega arith))
      (λ e. rw e (omega (arith, run-within bs)))

  stops : (l : List ℕ) → length (run quoted l) < length l → is_escaped quoted (get_or l (length (run quoted l)) 0) ≡ true
  unfolding run
  stops [] h = absurd (not-suc-le-zero h)
  stops (b ∷ bs) h =
      by_cases (is_escaped quoted b)
      (λ e. rw e e)
      (λ e. rw e (stops bs (le_of_suc-le-suc (rw e at h))))

  -- The run of a part is a part of the run.
  run-taken : (n : ℕ) (l : List ℕ) → run quoted (take n l) ≡ take n (run quoted l)
  unfolding run
  run-taken zero l = refl
  run-taken (suc n) [] = refl
  run-taken (suc n) (b ∷ bs) =
      by_cases (is_escaped quoted b)
      (λ e. rw e refl)
      (λ e. rw e (ap (λ (m : List ℕ). b ∷ m) (run-taken n bs)))

  -- The byte behind a run is escaped.
  pub run-stops : (l : List ℕ) (n : ℕ) → take n l ≡ run quoted l → n < length l → is_escaped quoted (get_or l n 0) ≡ true
  run-stops l n e h =
      let size : length (run quoted l) ≡ n = ap length (sym e) ∙ length-take-le n l (omega arith) in
      ap (λ (k : ℕ). is_escaped quoted (get_or l k 0)) (sym size) ∙ stops l (omega (arith, size))

  -- What a run starts with stands for itself, and the escapes go on behind it.
  pub run-front : (m n : ℕ) (l : List ℕ) → take n l ≡ run quoted l → m ≤ n → escaped quoted l ≡ take m l ++ escaped quoted (drop m l)
  unfolding run escaped
  run-front zero n l e h = refl
  run-front (suc m) zero l e h = absurd (not-suc-le-zero h)
  run-front (suc m) (suc n) [] e h = refl
  run-front (suc m) (suc n) (b ∷ bs) e h =
      by_cases (is_escaped quoted b)
      (λ t. let none : b ∷ take n bs ≡ [] = e ∙ rw t refl in absurd (omega (arith, ap length none)))
      (λ t.
      let is : b ∷ take n bs ≡ b ∷ run quoted bs = e ∙ rw t refl in
      let rest : take n bs ≡ run quoted bs = ap (drop 1) is in
      rw (escape-none quoted b t) (ap (λ (k : List ℕ). b ∷ k) (run-front m n bs rest (le_of_suc-le-suc h))))

-- From byte i on nothing is left.
pub nothing_left : (value : List ℕ) (i : ℕ) (quoted : Bool) → length value ≤ i → escaped quoted (drop i value) ≡ []
unfolding escaped
nothing_left value i quoted h = rw (drop_of_length-le value h) refl

-- A length that is told is that of a run.
pub length-told : {value runs : List ℕ} → Measured value runs → (quoted : Bool) (i : ℕ) {size : ℕ} → i < length value → size ≡ get_or runs (2 * i + bool_byte quoted) 0 → take size (drop i value) ≡ run quoted (drop i value)
length-told {value} m quoted i h e = ap (λ (k : ℕ). take k (drop i value)) e ∙ m.lengths quoted i h

-- What is seen, gathered in a byte.
pub seen-or : (all t : Bool) → bit_or (bool_byte (not all)) (bool_byte t) ≡ bool_byte (not (all && not t))
seen-or true true = refl
seen-or true false = refl
seen-or false true = refl
seen-or false false = refl

pub seen_none : (all : Bool) → eqb (bool_byte (not all)) 0 ≡ all
seen_none true = refl
seen_none false = refl

-- A value of which no byte is escaped is written as it is.
pub plain-escaped : (quoted : Bool) (value : List ℕ) → all_of (is_plain quoted) value ≡ true → escaped quoted value ≡ value
unfolding escaped
plain-escaped quoted [] h = refl
plain-escaped quoted (b ∷ bs) h =
    let k = both_true (is_plain quoted b) (all_of (is_plain quoted) bs) h in
    rw (escape-none quoted b (not-true (is_escaped quoted b) k.0)) (ap (λ (l : List ℕ). b ∷ l) (plain-escaped quoted bs k.1))

pub plain-everywhere : (quoted : Bool) (b : ℕ) → is_plain true b ≡ true → is_plain quoted b ≡ true
plain-everywhere quoted b h = rw (nowhere quoted b (not-true (is_escaped true b) h)) refl

-- The parts of bytes of which none is escaped.
taken-plain : (n : ℕ) (l : List ℕ) → all_of (is_plain true) l ≡ true → all_of (is_plain true) (take n l) ≡ true
taken-plain zero l h = refl
taken-plain (suc n) [] h = refl
taken-plain (suc n) (b ∷ bs) h =
    let k = both_true (is_plain true b) (all_of (is_plain true) bs) h in
    true-both k.0 (taken-plain n bs k.1)

dropped-plain : (i : ℕ) (l : List ℕ) → all_of (is_plain true) l ≡ true → all_of (is_plain true) (drop i l) ≡ true
dropped-plain zero l h = h
dropped-plain (suc i) [] h = refl
dropped-plain (suc i) (b ∷ bs) h = dropped-plain i bs (both_true (is_plain true b) (all_of (is_plain true) bs) h).1

pub part-plain : (pool : List ℕ) (offset size : ℕ) → all_of (is_plain true) pool ≡ true → all_of (is_plain true) (take size (drop offset pool)) ≡ true
part-plain pool offset size h = taken-plain size (drop offset pool) (dropped-plain offset pool h)

-- The lengths of the runs of a part are a part of the lengths.
drop-taken : (i n : ℕ) (l : List ℕ) → drop i (take n l) ≡ take (n - i) (drop i l)
drop-taken zero n l = let all : n ≡ n - 0 = omega arith in ap (λ (k : ℕ). take k l) all
drop-taken (suc i) zero l = let none : 0 ≡ 0 - suc i = omega arith in ap (λ (k : ℕ). take k (drop (suc i) l)) none
drop-taken (suc i) (suc n) [] = sym (take-nil (suc n - suc i))
drop-taken (suc i) (suc n) (x ∷ xs) =
    let less : n - i ≡ suc n - suc i = omega arith in
    drop-taken i n xs ∙ ap (λ (k : ℕ). take k (drop i xs)) less

take-swap : (m n : ℕ) (l : List ℕ) → take m (take n l) ≡ take n (take m l)
take-swap zero zero l = refl
take-swap zero (suc n) l = refl
take-swap (suc m) zero l = refl
take-swap (suc m) (suc n) [] = refl
take-swap (suc m) (suc n) (x ∷ xs) = ap (λ (r : List ℕ). x ∷ r) (take-swap m n xs)

taken-within : (n : ℕ) (l : List ℕ) → length (take n l) ≤ length l
taken-within zero l = omega arith
taken-within (suc n) [] = omega arith
taken-within (suc n) (x ∷ xs) = omega (arith, taken-within n xs)

pub part-measured : (bytes runs : List ℕ) (offset size : ℕ) → Measured bytes runs → Measured (take size (drop offset bytes)) (drop (2 * offset) runs)
part-measured bytes runs offset size m =
    let short = taken-within size (drop offset bytes) in
    record {
      room = omega (arith, short, length-drop offset bytes, length-drop (2 * offset) runs, m.room);
      lengths = λ quoted i h.
          let rest = drop (offset + i) bytes in
          let within : offset + i < length bytes = omega (arith, short, length-drop offset bytes) in
          let from : drop i (take size (drop offset bytes)) ≡ take (size - i) rest = drop-taken i size (drop offset bytes) ∙ ap (take (size - i)) (drop-drop i offset bytes) in
          let word : get_or (drop (2 * offset) runs) (2 * i + bool_byte quoted) 0 ≡ get_or runs (2 * (offset + i) + bool_byte quoted) 0 =
          get_or-drop (2 * offset) runs (2 * i + bool_byte quoted) 0 ∙ ap (λ (k : ℕ). get_or runs k 0) (omega arith) in
          rw (from, word)
          (take-swap (get_or runs (2 * (offset + i) + bool_byte quoted) 0) (size - i) rest
          ∙ ap (take (size - i)) (m.lengths quoted (offset + i) within) ∙ sym (run-taken quoted (size - i) rest));
    }

-- Behind the bytes there is no run.
pub run-over : (quoted : Bool) (bytes : List ℕ) (k : ℕ) → length bytes ≤ k → 0 ≡ length (run quoted (drop k bytes))
unfolding run
run-over quoted bytes k h = rw (drop_of_length-le bytes h) refl

-- A run that is one byte longer, or none.
pub longer : (quoted : Bool) (bytes : List ℕ) (k : ℕ) {size size' : ℕ} → k < length bytes → size ≡ length (run quoted (drop (suc k) bytes)) → size' ≡ cond (is_escaped quoted (get_or bytes k 0)) 0 (size + 1) → size' ≡ length (run quoted (drop k bytes))
unfolding run
longer quoted bytes k h behind is =
    is ∙ rw (drop-cons bytes k 0 h)
    (by_cases (is_escaped quoted (get_or bytes k 0)) (λ e. rw e refl) (λ e. rw e (omega (arith, behind))))

-- Looking for the end of a run: the first byte that is escaped.
run-first : (quoted : Bool) (l : List ℕ) → position_or_len (is_escaped quoted) l ≡ length (run quoted l)
unfolding run
run-first quoted [] = refl
run-first quoted (b ∷ bs) =
    by_cases (is_escaped quoted b)
    (λ e. rw e refl)
    (λ e. rw e (omega (arith, run-first quoted bs)))

pub run-position : (quoted : Bool) (l : List ℕ) {found : Option ℕ} → found ≡ position (is_escaped quoted) l → unwrap_or found (length l) ≡ length (run quoted l)
run-position quoted l e =
    let size = run-first quoted l in
    by_cases (ltb (length (run quoted l)) (length l))
    (λ t. rw (e, size, t) refl)
    (λ t. rw (e, size, t) (omega (arith, ltb-false (length (run quoted l)) (length l) t, run-within quoted l)))

-- A length that is looked for is that of a run.
pub length-looked : (quoted : Bool) (value : List ℕ) (i : ℕ) {size : ℕ} → size ≡ length (run quoted (drop i value)) → (take size (drop i value) ≡ run quoted (drop i value)) × (size ≤ length value - i)
length-looked quoted value i e =
    (ap (λ (k : ℕ). take k (drop i value)) e ∙ run-part quoted (drop i value), omega (arith, e, run-within quoted (drop i value), length-drop i value))
