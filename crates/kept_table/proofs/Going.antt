-- The loop over the rows: what is written before row r.
-- Assumes nothing.
use Prim.Native.Nat.{ℕ, zero, suc, ◌+◌, ◌-◌, ◌*◌, ◌≤◌, ◌<◌}
use mathlib.Core.Path.{◌≡◌, refl, sym, ap, ◌∙◌}
use mathlib.Core.Logic.{◌⊎◌, inl, inr}
use mathlib.Core.Bool.{true, false, cond}
use mathlib.Core.List.{List, [], ◌++◌}
use native.Mathlib.Nat.{le_refl, le_trans}
use native.Mathlib.Numerals.{add-one}
use native.Mathlib.Omega.{arith}
use lib.Dec.{eqb}
use lib.ListN.{length, get_or, set, length-append, length-set}
use lib.Seq.{get_or-set_same, get_or-set_other}
use borrow.Author.Tests.{eqb-true, eqb-false, eq-eqb}
use Rattle.rules.specs.Table.{WIDTH, MOST_ROWS, NONE, PARENT, word, row_count}
use Rattle.rules.proofs.Lists.{by_cases}
use Rattle.buffers.specs.Writes.{written}
use Rattle.buffers.proofs.Writes.{written_behind, written-from-start}
use Rattle.kept_table.specs.Kept.{kept_count, parent_among, row_words, kept_words, renumbered, Sorted}

-- How much is written.
module _ (table fates : List ℕ) where
  words_long : (r : ℕ) → length (kept_words table fates r) ≡ WIDTH * kept_count fates r
  unfolding kept_words kept_count
  words_long zero = refl
  words_long (suc r) =
      by_cases (eqb (get_or fates r 0) 0)
      (λ k. rw k (simp length-append (omega (arith, words_long r))))
      (λ k. rw k (words_long r))

  more : (r : ℕ) → length (kept_words table fates r) ≤ length (kept_words table fates (suc r))
  unfolding kept_words
  more r =
      by_cases (eqb (get_or fates r 0) 0)
      (λ k. rw k (simp length-append (omega arith)))
      (λ k. rw k (le_refl (length (kept_words table fates r))))

  grown : (r n : ℕ) → length (kept_words table fates r) ≤ length (kept_words table fates (r + n))
  grown r zero = let e : r + 0 ≡ r = omega arith in rw e (le_refl (length (kept_words table fates r)))
  grown r (suc n) = let e : r + suc n ≡ suc (r + n) = omega arith in rw e (le_trans (grown r n) (more (r + n)))

  count-few : (r : ℕ) → kept_count fates r ≤ r
  unfolding kept_count
  count-few zero = le_refl 0
  count-few (suc r) =
      by_cases (eqb (get_or fates r 0) 0)
      (λ k. rw k (omega (arith, count-few r)))
      (λ k. rw k (omega (arith, count-few r)))

  -- What row r adds.
  count_next : (r : ℕ) → kept_count fates (r + 1) ≡ cond (eqb (get_or fates r 0) 0) (kept_count fates r + 1) (kept_count fates r)
  unfolding kept_count
  count_next r = ap (kept_count fates) (add-one r)

  words-next : (r : ℕ) → kept_words table fates (r + 1) ≡ cond (eqb (get_or fates r 0) 0) (kept_words table fates r ++ row_words table r (parent_among fates (word table r PARENT))) (kept_words table fates r)
  unfolding kept_words
  words-next r = ap (kept_words table fates) (add-one r)

-- At row r: what stands in the output, and the numbers of the rows before.
pub record Going (table fates out₀ out numbers : List ℕ) (kept r : ℕ) : Type 0 where
  pub bound : r ≤ row_count table
  pub count : kept ≡ kept_count fates r
  pub before : (q : ℕ) → q < r → get_or numbers q 0 ≡ kept_count fates q
  pub words : out ≡ written out₀ 0 (kept_words table fates r)
  pub size : length out ≡ length out₀
  pub array : length numbers ≡ MOST_ROWS

pub going_start : (table fates out numbers : List ℕ) → length numbers ≡ MOST_ROWS → Going table fates out out numbers 0 0
unfolding kept_count kept_words
going_start table fates out numbers a = record { bound = omega arith; count = refl; before = λ q h. absurd (omega arith); words = sym (written-from-start out []); size = refl; array = a }

module _ {table fates out₀ out numbers : List ℕ} {kept r : ℕ} (s : Sorted table fates) (room : length (kept_words table fates (row_count table)) ≤ length out₀) (g : Going table fates out₀ out numbers kept r) (h : r < row_count table) where
  -- The number of row r is noted.
  abbrev noted : List ℕ
  noted = set numbers r kept

  pub noted-array : length noted ≡ MOST_ROWS
  noted-array = length-set numbers r kept ∙ g.array

  noted-before : (q : ℕ) → q < r + 1 → get_or noted q 0 ≡ kept_count fates q
  noted-before q i =
      let few = s.few in
      let array = g.array in
      by_cases (eqb q r)
      (λ e. rw (eqb-true q r e) (get_or-set_same numbers r kept 0 (omega arith) ∙ g.count))
      (λ e. let d = eqb-false q r e in get_or-set_other numbers r q kept 0 d ∙ g.before q (omega arith))

  parent-known : renumbered noted (word table r PARENT) ≡ parent_among fates (word table r PARENT)
  unfolding renumbered parent_among
  parent-known = go (s.behind r h)
    where
      go : (word table r PARENT ≡ NONE) ⊎ (word table r PARENT < r) → renumbered noted (word table r PARENT) ≡ parent_among fates (word table r PARENT)
      go (inl z) = rw (eq-eqb (word table r PARENT) NONE z) refl
      go (inr b) = ap (cond (eqb (word table r PARENT) NONE) NONE) (noted-before (word table r PARENT) (omega arith))

  -- There is room for it.
  kept-long : get_or fates r 0 ≡ 0 → length (kept_words table fates (r + 1)) ≡ WIDTH * kept + WIDTH
  kept-long k =
      let next = count_next table fates r in
      let yes? : kept_count fates (r + 1) ≡ kept_count fates r + 1 = rw (eq-eqb (get_or fates r 0) 0 k) at next in
      words_long table fates (r + 1) ∙ omega (arith, yes?, g.count)

  pub going-room : get_or fates r 0 ≡ 0 → (size : ℕ) → size ≡ length out → WIDTH * kept + WIDTH ≤ size
  going-room k size e =
      let last : r + 1 + (row_count table - (r + 1)) ≡ row_count table = omega arith in
      let all : length (kept_words table fates (r + 1)) ≤ length (kept_words table fates (row_count table)) = rw last at (grown table fates (r + 1) (row_count table - (r + 1))) in
      omega (arith, all, kept-long k, room, g.size, e)

  pub going-few : (kept ≤ r) × (r < MOST_ROWS)
  going-few = (omega (arith, count-few table fates r, g.count), omega (arith, s.few))

  -- It is written behind what is there, or left out.
  placed : eqb (get_or fates r 0) 0 ≡ true → written out (WIDTH * kept) (row_words table r (renumbered noted (word table r PARENT))) ≡ written out₀ 0 (kept_words table fates (r + 1))
  placed k =
      let a = kept_words table fates r in
      let b = row_words table r (parent_among fates (word table r PARENT)) in
      let next = words-next table fates r in
      let both : kept_words table fates (r + 1) ≡ a ++ b = rw k at next in
      let at : WIDTH * kept ≡ 0 + length a = omega (arith, words_long table fates r, g.count) in
      let fits : 0 + length a + length b ≤ length out₀ = omega (arith, at, going-room (eqb-true (get_or fates r 0) 0 k) (length out) refl, g.size) in
      ap (λ (p : ℕ). written out (WIDTH * kept) (row_words table r p)) parent-known
      ∙ ap (λ (n : ℕ). written out n b) at
      ∙ ap (λ (o : List ℕ). written o (0 + length a) b) g.words
      ∙ written_behind out₀ 0 a b fits
      ∙ ap (written out₀ 0) (sym both)

  left_out : eqb (get_or fates r 0) 0 ≡ false → out ≡ written out₀ 0 (kept_words table fates (r + 1))
  left_out k = let next = words-next table fates r in g.words ∙ ap (written out₀ 0) (sym (rw k at next))

  pub going_next : {kept' : ℕ} {out' : List ℕ} → kept' ≡ cond (eqb (get_or fates r 0) 0) (kept + 1) kept → out' ≡ cond (eqb (get_or fates r 0) 0) (written out (WIDTH * kept) (row_words table r (renumbered noted (word table r PARENT)))) out → length out' ≡ length out → Going table fates out₀ out' noted kept' (r + 1)
  going_next c o l =
      record {
        bound = omega arith;
        count = c ∙ rw g.count (sym (count_next table fates r));
        before = noted-before;
        words = o ∙ by_cases (eqb (get_or fates r 0) 0) (λ k. rw k (placed k)) (λ k. rw k (left_out k));
        size = l ∙ g.size;
        array = noted-array;
      }

-- No row is left.
pub going_end : {table fates out₀ out numbers : List ℕ} {kept r : ℕ} → Going table fates out₀ out numbers kept r → row_count table ≤ r → out ≡ written out₀ 0 (kept_words table fates (row_count table))
going_end {table} {fates} {out₀} {r = r} g h = let bound = g.bound in let last : r ≡ row_count table = omega arith in g.words ∙ ap (λ (n : ℕ). written out₀ 0 (kept_words table fates n)) last
