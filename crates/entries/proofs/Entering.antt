-- One more entry.
-- Assumes nothing.
use Prim.Native.Nat.{ℕ, ◌+◌, ◌*◌, ◌%◌, ◌≤◌, ◌<◌}
use mathlib.Core.Path.{◌≡◌, sym, ◌∙◌}
use mathlib.Core.Bool.{true, false, cond}
use mathlib.Core.List.{List}
use native.Mathlib.Omega.{arith}
use borrow.Author.Tests.{eqb-true, eqb-false, ltb-true, lt-ltb}
use lib.ListN.{length, get_or, set, length-set}
use lib.Seq.{get_or-set_same, get_or-set_other}
use lib.Dec.{eqb, ltb}
use Rattle.rules.proofs.Lists.{by_cases}
use Rattle.entries.specs.Entries.{BUCKETS, LAST, HARD, NAMES, WIDTH, OFFSET, LENGTH, HASH, LINK, KIND, last_number, tables_of, word, head_at, entered}
use Rattle.entries.proofs.PoolTables.{tables-before, tables-behind}

-- The words of a number stand apart from each other, from the last number and from the heads.
abbrev pub apart : (at j k : ℕ) → eqb j k ≡ false → at + j ≡ at + k → ⊥
apart at j k e s = eqb-false j k e (omega arith)

abbrev past-last : (n k : ℕ) → NAMES + WIDTH * n + k ≡ LAST → ⊥
past-last n k s = omega arith

abbrev past-heads : (n k h : ℕ) → NAMES + WIDTH * n + k ≡ h % BUCKETS → ⊥
past-heads n k h s = omega arith

pub here : (l : List ℕ) (i a : ℕ) → ltb i (length l) ≡ true → get_or (set l i a) i 0 ≡ a
here l i a h = get_or-set_same l i a 0 (ltb-true i (length l) h)

abbrev past-hard : (n k : ℕ) → NAMES + WIDTH * n + k ≡ HARD → ⊥
past-hard n k s = omega arith

ruleset reading = (here, get_or-set_other, length-set, apart, past-last, past-heads, past-hard)

module _ (e : List ℕ) (offset size hash kind hard : ℕ) (room : NAMES + WIDTH * (last_number e + 2) ≤ length e) where
  abbrev inside : (k : ℕ) → ltb k WIDTH ≡ true → ltb (NAMES + WIDTH * (last_number e + 1) + k) (length e) ≡ true
  inside k h = let l = ltb-true k WIDTH h in lt-ltb (NAMES + WIDTH * (last_number e + 1) + k) (length e) (omega arith)

  pub length-entered : length (entered e offset size hash kind hard) ≡ length e
  unfolding entered
  length-entered = simp length-set

  pub last-entered : last_number (entered e offset size hash kind hard) ≡ last_number e + 1
  unfolding entered
  last-entered =
      let count : ltb LAST (length e) ≡ true = lt-ltb LAST (length e) (omega arith) in
      simp (reading, count)

  -- the new number's words
  pub words-entered :
      (word (entered e offset size hash kind hard) (last_number e + 1) OFFSET ≡ offset) × (word (entered e offset size hash kind hard) (last_number e + 1) LENGTH ≡ size)
      × (word (entered e offset size hash kind hard) (last_number e + 1) HASH ≡ hash)
      × (word (entered e offset size hash kind hard) (last_number e + 1) LINK ≡ head_at e (hash % BUCKETS))
      × (word (entered e offset size hash kind hard) (last_number e + 1) KIND ≡ kind)
  unfolding entered
  words-entered = (simp (reading, inside), simp (reading, inside), simp (reading, inside), simp (reading, inside), simp (reading, inside))

  pub word_kept : (m k : ℕ) → m < last_number e + 1 → k < WIDTH → word (entered e offset size hash kind hard) m k ≡ word e m k
  unfolding entered
  word_kept m k h l =
      let below : (j : ℕ) → NAMES + WIDTH * m + k ≡ NAMES + WIDTH * (last_number e + 1) + j → ⊥ = λ j x. omega arith in
      simp (reading, below)

  -- the tables of the pool stay
  pub tables-entered : tables_of (entered e offset size hash kind hard) ≡ tables_of e
  unfolding entered
  tables-entered =
      let n = last_number e + 1 in
      let at = NAMES + WIDTH * n in
      let l1 = set e (at + OFFSET) offset in
      let l2 = set l1 (at + LENGTH) size in
      let l3 = set l2 (at + HASH) hash in
      let l4 = set l3 (at + LINK) (head_at e (hash % BUCKETS)) in
      let l5 = set l4 (at + KIND) kind in
      let l6 = set l5 HARD hard in
      let l7 = set l6 (hash % BUCKETS) n in
      tables-before l7 LAST n (omega arith) ∙ tables-before l6 (hash % BUCKETS) n (omega arith) ∙ tables-before l5 HARD hard (omega arith)
      ∙ tables-behind l4 (at + KIND) kind (omega arith) ∙ tables-behind l3 (at + LINK) (head_at e (hash % BUCKETS)) (omega arith)
      ∙ tables-behind l2 (at + HASH) hash (omega arith) ∙ tables-behind l1 (at + LENGTH) size (omega arith) ∙ tables-behind e (at + OFFSET) offset (omega arith)

  pub heads-entered : (b : ℕ) → b < BUCKETS → head_at (entered e offset size hash kind hard) b ≡ cond (eqb (hash % BUCKETS) b) (last_number e + 1) (head_at e b)
  unfolding entered
  heads-entered b h =
      let count : b ≡ LAST → ⊥ = λ x. omega arith in
      let flag : b ≡ HARD → ⊥ = λ x. omega arith in
      let below : (j : ℕ) → b ≡ NAMES + WIDTH * (last_number e + 1) + j → ⊥ = λ j x. omega arith in
      let in-heads : ltb b (length e) ≡ true = lt-ltb b (length e) (omega arith) in
      by_cases (eqb (hash % BUCKETS) b)
      (λ t. rw (t, eqb-true (hash % BUCKETS) b t) (simp (reading, count, in-heads)))
      (λ t. let other : b ≡ hash % BUCKETS → ⊥ = λ x. eqb-false (hash % BUCKETS) b t (sym x) in rw t (simp (reading, count, other, flag, below)))
