-- What two places tell of their parts, and what is remembered.
-- Assumes nothing.
use Prim.Native.Nat.{ℕ, zero, suc, ◌+◌, ◌-◌, ◌*◌, ◌≤◌, ◌<◌}
use mathlib.Core.Path.{◌≡◌, refl, sym, ap, ◌∙◌}
use mathlib.Core.Bool.{Bool, true, false, ◌&&◌}
use mathlib.Core.List.{List, ◌++◌}
use native.Mathlib.Omega.{arith}
use borrow.Author.Tests.{eqb-true, eqb-false}
use lib.Dec.{eqb}
use lib.ListN.{length, get_or, take, drop, set, replicate, length-set, length-drop, length-replicate, take-append-drop}
use lib.Seq.{length-take-le, drop-append-le, take-append-le, get_or-set_same, get_or-set_other}
use Rattle.rules.specs.Lists.{same_bytes}
use Rattle.rules.specs.Table.{part}
use Rattle.rules.proofs.Lists.{by_cases, both_true, equal-same_bytes, unequal-same_bytes, same_bytes-equal}
use Rattle.pairs.specs.Pairs.{SLOTS, WORDS, FIRST, SECOND, LENGTH, pair_at, Alike, Within, Pairs, remembered}

length_part : (pool : List ℕ) (offset size : ℕ) → Within pool offset size → length (part pool offset size) ≡ size
length_part pool offset size w = length-take-le size (drop offset pool) (rw length-drop (omega (arith, w.0)))

-- Places of another length have other parts.
pub other_length :
    (pool other : List ℕ) (first second n m : ℕ) → Within pool first n → Within other second m → (n ≡ m → ⊥) → false ≡ same_bytes (part other second m) (part pool first n)
other_length pool other first second n m w v different =
    sym (unequal-same_bytes (part other second m) (part pool first n) (λ e. different (sym (length_part pool first n w) ∙ sym (ap length e) ∙ length_part other second m v)))

-- No bytes are no bytes.
pub no_bytes : (pool other : List ℕ) (first second n m : ℕ) → n ≡ m → n ≡ 0 → true ≡ same_bytes (part other second m) (part pool first n)
no_bytes pool other first second n m e z = let zero? : m ≡ 0 = omega arith in rw (z, zero?) refl

-- The same place in pools that begin alike is the same part.
part-alike : (pool other : List ℕ) (offset size : ℕ) → Alike pool other → offset + size ≤ length pool → part other offset size ≡ part pool offset size
part-alike pool other offset size alike within =
    let whole : other ≡ pool ++ drop (length pool) other = sym (take-append-drop (length pool) other) ∙ ap (λ front. front ++ drop (length pool) other) alike in
    ap (λ l. part l offset size) whole
    ∙ ap (take size) (drop-append-le offset pool (drop (length pool) other) (omega arith))
    ∙ take-append-le size (drop offset pool) (drop (length pool) other) (rw length-drop (omega arith))

pub same_place :
    (pool other : List ℕ) (first second n m : ℕ) → Alike pool other → Within pool first n → n ≡ m → first ≡ second → true ≡ same_bytes (part other second m) (part pool first n)
same_place pool other first second n m alike w e f =
    let equal : part other second m ≡ part pool first n = rw (← e, ← f) (part-alike pool other first n alike w.0) in
    sym (equal-same_bytes equal)

-- A pair that a slot remembers.
pub known-pair :
    {pairs pool other : List ℕ} → Pairs pairs pool other → (s first second n m : ℕ) {is : Bool}
    → is ≡ (eqb (pair_at pairs s FIRST) first && eqb (pair_at pairs s SECOND) second && eqb (pair_at pairs s LENGTH) n) → is ≡ true → n ≡ m
    → true ≡ same_bytes (part other second m) (part pool first n)
known-pair {pairs} {pool} {other} known s first second n m told is e =
    let three = both_true (eqb (pair_at pairs s FIRST) first && eqb (pair_at pairs s SECOND) second) (eqb (pair_at pairs s LENGTH) n) (sym told ∙ is) in
    let two = both_true (eqb (pair_at pairs s FIRST) first) (eqb (pair_at pairs s SECOND) second) three.0 in
    let equal : part other second m ≡ part pool first n =
    rw (← e, ← eqb-true (pair_at pairs s FIRST) first two.0, ← eqb-true (pair_at pairs s SECOND) second two.1, ← eqb-true (pair_at pairs s LENGTH) n three.1) (sym (known.equal s)) in
    sym (equal-same_bytes equal)

-- A slot is filled.
module _ (p : List ℕ) (s first second size : ℕ) (long : WORDS ≤ length p) (slot : s < SLOTS) where
  length-remembered : length (remembered p s first second size) ≡ length p
  unfolding remembered
  length-remembered = simp length-set

  here-first : pair_at (remembered p s first second size) s FIRST ≡ first
  unfolding remembered
  here-first =
      get_or-set_other (set (set p (3 * s + FIRST) first) (3 * s + SECOND) second) (3 * s + LENGTH) (3 * s + FIRST) size 0 (λ z. omega arith)
      ∙ get_or-set_other (set p (3 * s + FIRST) first) (3 * s + SECOND) (3 * s + FIRST) second 0 (λ z. omega arith)
      ∙ get_or-set_same p (3 * s + FIRST) first 0 (omega arith)

  here-second : pair_at (remembered p s first second size) s SECOND ≡ second
  unfolding remembered
  here-second =
      get_or-set_other (set (set p (3 * s + FIRST) first) (3 * s + SECOND) second) (3 * s + LENGTH) (3 * s + SECOND) size 0 (λ z. omega arith)
      ∙ get_or-set_same (set p (3 * s + FIRST) first) (3 * s + SECOND) second 0 (rw length-set (omega arith))

  here-length : pair_at (remembered p s first second size) s LENGTH ≡ size
  unfolding remembered
  here-length = get_or-set_same (set (set p (3 * s + FIRST) first) (3 * s + SECOND) second) (3 * s + LENGTH) size 0 (rw (length-set, length-set) (omega arith))

  elsewhere : (t k : ℕ) → (t ≡ s → ⊥) → k < 3 → pair_at (remembered p s first second size) t k ≡ pair_at p t k
  unfolding remembered
  elsewhere t k n j =
      get_or-set_other (set (set p (3 * s + FIRST) first) (3 * s + SECOND) second) (3 * s + LENGTH) (3 * t + k) size 0 (λ z. n (omega arith))
      ∙ get_or-set_other (set p (3 * s + FIRST) first) (3 * s + SECOND) (3 * t + k) second 0 (λ z. n (omega arith))
      ∙ get_or-set_other p (3 * s + FIRST) (3 * t + k) first 0 (λ z. n (omega arith))

-- A pair of equal parts is remembered.
pub remembered-pair :
    {pairs pool other : List ℕ} → Pairs pairs pool other → (s first second n m : ℕ) → s < SLOTS → n ≡ m → same_bytes (part other second m) (part pool first n) ≡ true
    → {after : List ℕ} → after ≡ remembered pairs s first second n → Pairs after pool other
remembered-pair {pairs} {pool} {other} known s first second n m slot e same {after} is =
    let long = known.words in
    let equal : part pool first n ≡ part other second n = sym (rw (← e) at (same_bytes-equal (part other second m) (part pool first n) same)) in
    rw is
    (record {
      words = rw (length-remembered pairs s first second n long slot) long;
      equal = λ t.
          by_cases (eqb t s)
          (λ q.
          let z = eqb-true t s q in
          rw (z, here-first pairs s first second n long slot, here-second pairs s first second n long slot, here-length pairs s first second n long slot) equal)
          (λ q.
          let z = eqb-false t s q in
          rw (elsewhere pairs s first second n long slot t FIRST z (omega arith), elsewhere pairs s first second n long slot t SECOND z (omega arith), elsewhere pairs s first second n long slot t LENGTH z (omega arith)) (known.equal t));
    })

-- What a comparison of two parts tells.
pub compared : {is : Bool} {a b x y : List ℕ} → is ≡ same_bytes a b → a ≡ x → b ≡ y → is ≡ same_bytes x y
compared {is} {a} {b} {x} {y} e p q = rw (← p, ← q) e

-- A slice is a part.
pub cut : (l : List ℕ) (at n m : ℕ) → n ≡ m → take ((at + n) - at) (drop at l) ≡ part l at m
cut l at n m e = let size : (at + n) - at ≡ m = omega arith in ap (λ (k : ℕ). take k (drop at l)) size

-- Zeros remember the two empty parts.
zeros : (size i : ℕ) → ◌≡◌ {A = ℕ} (get_or (replicate size 0) i 0) 0
zeros zero i = refl
zeros (suc size) zero = refl
zeros (suc size) (suc i) = zeros size i

pub zeros-pairs : (pool other : List ℕ) (size : ℕ) → WORDS ≤ size → Pairs (replicate size 0) pool other
zeros-pairs pool other size long =
    record {
      words = rw length-replicate long;
      equal = λ s. rw (zeros size (3 * s + FIRST), zeros size (3 * s + SECOND), zeros size (3 * s + LENGTH)) refl;
    }
