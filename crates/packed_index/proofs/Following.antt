-- The words of the index with one name more.
-- Assumes nothing.
use Prim.Native.Nat.{ℕ, ◌+◌, ◌*◌, ◌%◌, ◌≤◌, ◌<◌}
use mathlib.Core.Path.{◌≡◌, sym}
use mathlib.Core.Bool.{true, false, cond}
use mathlib.Core.List.{List}
use native.Mathlib.Omega.{arith}
use borrow.Author.Tests.{eqb-true, eqb-false, ltb-true, lt-ltb}
use lib.ListN.{length, get_or, set, length-set}
use lib.Seq.{get_or-set_same, get_or-set_other}
use lib.Dec.{eqb, ltb}
use Rattle.rules.proofs.Lists.{by_cases}
use Rattle.packed_index.specs.Index.{BUCKETS, COUNT, USED, ENTRIES, WIDTH, OFFSET, LENGTH, HASH, LINK, MARK, count_of, word, head_at, followed}

-- The words of a name stand apart from each other, from the counts and from the heads.
abbrev apart : (at j k : ℕ) → eqb j k ≡ false → at + j ≡ at + k → ⊥
apart at j k e s = eqb-false j k e (omega arith)

abbrev past-count : (n k : ℕ) → ENTRIES + WIDTH * n + k ≡ COUNT → ⊥
past-count n k s = omega arith

abbrev past-used : (n k : ℕ) → ENTRIES + WIDTH * n + k ≡ USED → ⊥
past-used n k s = omega arith

abbrev past-heads : (n k h : ℕ) → ENTRIES + WIDTH * n + k ≡ h % BUCKETS → ⊥
past-heads n k h s = omega arith

here : (l : List ℕ) (i a : ℕ) → ltb i (length l) ≡ true → get_or (set l i a) i 0 ≡ a
here l i a h = get_or-set_same l i a 0 (ltb-true i (length l) h)

ruleset reading = (here, get_or-set_other, length-set, apart, past-count, past-used, past-heads)

module _ (e : List ℕ) (offset size hash : ℕ) (room : ENTRIES + WIDTH * (count_of e + 2) ≤ length e) where
  abbrev inside : (k : ℕ) → ltb k WIDTH ≡ true → ltb (ENTRIES + WIDTH * (count_of e + 1) + k) (length e) ≡ true
  inside k h = let l = ltb-true k WIDTH h in lt-ltb (ENTRIES + WIDTH * (count_of e + 1) + k) (length e) (omega arith)

  pub length-followed : length (followed e offset size hash) ≡ length e
  unfolding followed
  length-followed = simp length-set

  pub count-followed : count_of (followed e offset size hash) ≡ count_of e + 1
  unfolding followed
  count-followed =
      let count : ltb COUNT (length e) ≡ true = lt-ltb COUNT (length e) (omega arith) in
      let used : COUNT ≡ USED → ⊥ = λ x. omega arith in
      simp (reading, count, used)

  pub used-followed : get_or (followed e offset size hash) USED 0 ≡ get_or e USED 0 + size
  unfolding followed
  used-followed =
      let used : ltb USED (length e) ≡ true = lt-ltb USED (length e) (omega arith) in
      simp (reading, used)

  -- the new name's words
  pub words-followed :
      (word (followed e offset size hash) (count_of e + 1) OFFSET ≡ offset) × (word (followed e offset size hash) (count_of e + 1) LENGTH ≡ size)
      × (word (followed e offset size hash) (count_of e + 1) HASH ≡ hash)
      × (word (followed e offset size hash) (count_of e + 1) LINK ≡ head_at e (hash % BUCKETS))
      × (word (followed e offset size hash) (count_of e + 1) MARK ≡ get_or e USED 0 + 1)
  unfolding followed
  words-followed = (simp (reading, inside), simp (reading, inside), simp (reading, inside), simp (reading, inside), simp (reading, inside))

  -- What stands neither among the counts, the heads nor the new name's words stays.
  pub followed-kept : (i : ℕ) → USED < i → i < ENTRIES + WIDTH * (count_of e + 1) → get_or (followed e offset size hash) i 0 ≡ get_or e i 0
  unfolding followed
  followed-kept i low high =
      let below : (j : ℕ) → i ≡ ENTRIES + WIDTH * (count_of e + 1) + j → ⊥ = λ j x. omega arith in
      let used : i ≡ USED → ⊥ = λ x. omega arith in
      let count : i ≡ COUNT → ⊥ = λ x. omega arith in
      let head : i ≡ hash % BUCKETS → ⊥ = λ x. omega arith in
      simp (reading, below, used, count, head)

  pub heads-followed : (b : ℕ) → b < BUCKETS → head_at (followed e offset size hash) b ≡ cond (eqb (hash % BUCKETS) b) (count_of e + 1) (head_at e b)
  unfolding followed
  heads-followed b h =
      let count : b ≡ COUNT → ⊥ = λ x. omega arith in
      let used : b ≡ USED → ⊥ = λ x. omega arith in
      let below : (j : ℕ) → b ≡ ENTRIES + WIDTH * (count_of e + 1) + j → ⊥ = λ j x. omega arith in
      let in-heads : ltb b (length e) ≡ true = lt-ltb b (length e) (omega arith) in
      by_cases (eqb (hash % BUCKETS) b)
      (λ t. rw (t, eqb-true (hash % BUCKETS) b t) (simp (reading, count, used, in-heads)))
      (λ t. let other : b ≡ hash % BUCKETS → ⊥ = λ x. eqb-false (hash % BUCKETS) b t (sym x) in rw t (simp (reading, count, used, other, below)))
