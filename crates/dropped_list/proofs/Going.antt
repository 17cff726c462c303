-- The loop over the rows: what is listed before row r.
-- Assumes nothing.
use Prim.Native.Nat.{ℕ, zero, suc, ◌+◌, ◌-◌, ◌*◌, ◌≤◌, ◌<◌}
use mathlib.Core.Path.{◌≡◌, refl, sym, ap, ◌∙◌}
use mathlib.Core.Bool.{Bool, true, false, cond, not}
use mathlib.Core.List.{List, [], ◌∷◌, ◌++◌}
use native.Mathlib.Nat.{le_refl, le_trans}
use native.Mathlib.Numerals.{add-one}
use native.Mathlib.Omega.{arith}
use lib.Dec.{eqb}
use lib.ListN.{length, get_or, set, drop, replicate, length-append, length-replicate}
use borrow.Author.Tests.{not-true, not-false}
use Rattle.rules.specs.Outputs.{padded}
use Rattle.rules.proofs.Lists.{by_cases}
use Rattle.buffers.specs.Writes.{written, cleared}
use Rattle.buffers.proofs.Writes.{write-more, written-from-start}
use Rattle.salvage.specs.Salvage.{ENTRY}
use Rattle.dropped_list.specs.Dropped.{dropped_words}

-- What its fate tells of a row.
module _ (fate : ℕ) {dropped : Bool} (d : dropped ≡ not (eqb fate 0)) where
  pub where-kept : {A : Type 0} → not dropped ≡ true → (yes? no? : A) → yes? ≡ cond (eqb fate 0) yes? no?
  where-kept e yes? no? = rw (not-false (eqb fate 0) (sym d ∙ not-true dropped e)) refl

  pub fate-set : not dropped ≡ false → eqb fate 0 ≡ false
  fate-set e = not-true (eqb fate 0) (sym d ∙ not-false dropped e)

  pub where-dropped : {A : Type 0} → not dropped ≡ false → (yes? no? : A) → no? ≡ cond (eqb fate 0) yes? no?
  where-dropped e yes? no? = rw (fate-set e) refl

-- How much is written.
module _ (fates : List ℕ) where
  more : (r : ℕ) → length (dropped_words fates r) ≤ length (dropped_words fates (suc r))
  unfolding dropped_words
  more r =
      by_cases (eqb (get_or fates r 0) 0)
      (λ k. rw k (le_refl (length (dropped_words fates r))))
      (λ k. rw k (simp length-append (omega arith)))

  grown : (r n : ℕ) → length (dropped_words fates r) ≤ length (dropped_words fates (r + n))
  grown r zero = let e : r + 0 ≡ r = omega arith in rw e (le_refl (length (dropped_words fates r)))
  grown r (suc n) = let e : r + suc n ≡ suc (r + n) = omega arith in rw e (le_trans (grown r n) (more (r + n)))

  next : (r : ℕ) → dropped_words fates (r + 1) ≡ cond (eqb (get_or fates r 0) 0) (dropped_words fates r) ((dropped_words fates r ++ r ∷ []) ++ get_or fates r 0 ∷ [])
  unfolding dropped_words
  next r = ap (dropped_words fates) (add-one r)

-- At row r: what stands in the list, and how many rows are kept.
pub record Going (fates list : List ℕ) (full rows kept r : ℕ) : Type 0 where
  pub bound : r ≤ rows
  pub few : kept ≤ r
  pub count : ENTRY * (r - kept) ≡ length (dropped_words fates r)
  pub words : list ≡ written (replicate full 0) 0 (dropped_words fates r)
  pub size : length list ≡ full

pub going_start : (fates before list : List ℕ) (rows : ℕ) → list ≡ cleared before 0 → Going fates list (length list) rows 0 0
unfolding dropped_words
going_start fates before list rows e =
    let n : length before - 0 ≡ length before = omega arith in
    let zeros : list ≡ replicate (length before) 0 = e ∙ ap (λ (k : ℕ). replicate k 0) n in
    let size : length list ≡ length before = ap length zeros ∙ length-replicate (length before) 0 in
    record {
      bound = omega arith;
      few = omega arith;
      count = refl;
      words = zeros ∙ ap (λ (k : ℕ). replicate k 0) (sym size) ∙ sym (written-from-start (replicate (length list) 0) []);
      size = refl;
    }

module _ {fates list : List ℕ} {full rows kept r : ℕ} (room : length (dropped_words fates rows) ≤ full) (g : Going fates list full rows kept r) (h : r < rows) where
  -- There is room for an entry.
  long : eqb (get_or fates r 0) 0 ≡ false → length (dropped_words fates (r + 1)) ≡ ENTRY * (r - kept) + ENTRY
  long k =
      let e = next fates r in
      let both : dropped_words fates (r + 1) ≡ (dropped_words fates r ++ r ∷ []) ++ get_or fates r 0 ∷ [] = rw k at e in
      ap length both ∙ simp length-append (omega (arith, g.count))

  pub going-room : eqb (get_or fates r 0) 0 ≡ false → (size : ℕ) → size ≡ length list → ENTRY * (r - kept) + ENTRY ≤ size
  going-room k size e =
      let last : r + 1 + (rows - (r + 1)) ≡ rows = omega arith in
      let all : length (dropped_words fates (r + 1)) ≤ length (dropped_words fates rows) = rw last at (grown fates (r + 1) (rows - (r + 1))) in
      omega (arith, all, long k, room, g.size, e)

  -- An entry is two stores behind what is there.
  listed : eqb (get_or fates r 0) 0 ≡ false → set (set list (ENTRY * (r - kept)) r) (ENTRY * (r - kept) + 1) (get_or fates r 0) ≡ written (replicate full 0) 0 (dropped_words fates (r + 1))
  listed k =
      let zeros = replicate {A = ℕ} full 0 in
      let size : length zeros ≡ full = length-replicate full 0 in
      let l = dropped_words fates r in
      let e = next fates r in
      let both : dropped_words fates (r + 1) ≡ (l ++ r ∷ []) ++ get_or fates r 0 ∷ [] = rw k at e in
      let fits = going-room k (length list) refl in
      let one : ENTRY * (r - kept) ≡ 0 + length l = omega (arith, g.count) in
      let two : ENTRY * (r - kept) + 1 ≡ 0 + length (l ++ r ∷ []) = simp length-append (omega (arith, g.count)) in
      let first : set list (ENTRY * (r - kept)) r ≡ written zeros 0 (l ++ r ∷ []) =
      ap (λ (n : ℕ). set list n r) one ∙ ap (λ (m : List ℕ). set m (0 + length l) r) g.words ∙ write-more zeros 0 l r (omega (arith, one, fits, size, g.size)) in
      ap (λ (m : List ℕ). set m (ENTRY * (r - kept) + 1) (get_or fates r 0)) first
      ∙ ap (λ (n : ℕ). set (written zeros 0 (l ++ r ∷ [])) n (get_or fates r 0)) two
      ∙ write-more zeros 0 (l ++ r ∷ []) (get_or fates r 0) (omega (arith, two, fits, size, g.size))
      ∙ ap (written zeros 0) (sym both)

  left_out : eqb (get_or fates r 0) 0 ≡ true → list ≡ written (replicate full 0) 0 (dropped_words fates (r + 1))
  left_out k = let e = next fates r in g.words ∙ ap (written (replicate full 0) 0) (sym (rw k at e))

  counted : {kept' : ℕ} → kept' ≡ cond (eqb (get_or fates r 0) 0) (kept + 1) kept → (ENTRY * (r + 1 - kept') ≡ length (dropped_words fates (r + 1))) × (kept' ≤ r + 1)
  counted c =
      let few = g.few in
      by_cases (eqb (get_or fates r 0) 0)
      (λ k.
      let e = next fates r in
      let n = rw k at c in
      let same : dropped_words fates (r + 1) ≡ dropped_words fates r = rw k at e in
      (omega (arith, n, ap length same, g.count), omega (arith, n)))
      (λ k. let n = rw k at c in (omega (arith, n, long k), omega (arith, n)))

  pub going_next :
      {kept' : ℕ} {list' : List ℕ} → kept' ≡ cond (eqb (get_or fates r 0) 0) (kept + 1) kept
      → list' ≡ cond (eqb (get_or fates r 0) 0) list (set (set list (ENTRY * (r - kept)) r) (ENTRY * (r - kept) + 1) (get_or fates r 0)) → length list' ≡ length list
      → Going fates list' full rows kept' (r + 1)
  going_next c o l =
      record {
        bound = omega arith;
        few = (counted c).1;
        count = (counted c).0;
        words = o ∙ by_cases (eqb (get_or fates r 0) 0) (λ k. rw k (left_out k)) (λ k. rw k (listed k));
        size = l ∙ g.size;
      }

drop-zeros : (size k : ℕ) → drop {A = ℕ} k (replicate size 0) ≡ replicate (size - k) 0
drop-zeros size zero = let e : size - 0 ≡ size = omega arith in rw e refl
drop-zeros zero (suc k) = let e : 0 - suc k ≡ 0 = omega arith in rw e refl
drop-zeros (suc size) (suc k) = let e : suc size - suc k ≡ size - k = omega arith in rw e (drop-zeros size k)

-- No row is left.
pub going_end : {fates list : List ℕ} {full rows kept r : ℕ} → Going fates list full rows kept r → rows ≤ r → list ≡ padded full (dropped_words fates rows)
unfolding padded
going_end {fates} {full = full} {rows = rows} {r = r} g h =
    let bound = g.bound in
    let last : r ≡ rows = omega arith in
    let l = dropped_words fates rows in
    g.words ∙ ap (λ (n : ℕ). written (replicate full 0) 0 (dropped_words fates n)) last
    ∙ written-from-start (replicate full 0) l ∙ ap (λ (m : List ℕ). l ++ m) (drop-zeros full (length l))
