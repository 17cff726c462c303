-- Nothing but the places seen, how the pool repeats itself and how hard the names are depends on the words between the counts and
-- the names; and zeros are the index of no names.
-- Assumes nothing.
use Prim.Native.Nat.{ℕ, suc, ◌+◌, ◌*◌, ◌%◌, ◌≤◌, ◌<◌}
use mathlib.Core.Path.{◌≡◌, refl, sym, ap, ◌∙◌}
use mathlib.Core.List.{List, []}
use native.Mathlib.Omega.{arith}
use borrow.Author.Tests.{eqb-true, eqb-false}
use lib.Dec.{eqb}
use lib.ListN.{length, get_or, set, length-set}
use lib.Seq.{get_or-set_same, get_or-set_other}
use Rattle.rules.specs.Table.{part}
use Rattle.rules.proofs.Lists.{by_cases, true-not-false}
use Rattle.chains.proofs.Laws.{latest-same, chain-none, chain_same}
use Rattle.packing.specs.Packing.{joined}
use Rattle.packed_index.specs.Index.{BUCKETS, COUNT, USED, HARD, NEXT, START, SIZE, STEP, PLACES, SLOTS, ENTRIES, WIDTH, OFFSET, LENGTH, HASH, LINK, MARK, count_of, word, seen, name_at, is_named, bucket_at, head_at, link_at, Chains, Marks, Repeats, Repeating, Index, remembered, stretched}

module _ (e e' : List ℕ) (long : length e' ≡ length e) (same : (i : ℕ) → (HARD ≤ i → i < ENTRIES → ⊥) → get_or e' i 0 ≡ get_or e i 0) where
  count_same : count_of e' ≡ count_of e
  count_same = same COUNT (λ a b. omega arith)

  word_same : (n k : ℕ) → word e' n k ≡ word e n k
  word_same n k = same (ENTRIES + WIDTH * n + k) (λ a b. omega arith)

  name-same : (pool : List ℕ) (n : ℕ) → name_at e' pool n ≡ name_at e pool n
  name-same pool n = rw (word_same n OFFSET, word_same n LENGTH)

  pub chains-elsewhere : {hashed : List ℕ → ℕ} {pool : List ℕ} → Chains hashed e pool → Chains hashed e' pool
  chains-elsewhere {hashed} {pool} g =
      let c = chain_same BUCKETS g.chained (bucket_at e') (link_at e') (λ m h. ap (λ x. x % BUCKETS) (word_same (suc m) HASH)) (λ m h. word_same (suc m) LINK) in
      record {
        room = rw (count_same, long) g.room;
        each = rw count_same (λ m h.
            let old = g.each m h in
            record {
              size = word_same (suc m) LENGTH ∙ old.size ∙ ap length (sym (name-same pool (suc m)));
              hash = word_same (suc m) HASH ∙ old.hash ∙ ap hashed (sym (name-same pool (suc m)));
            });
        chained = rw count_same (record { heads = λ b h. same b (λ x y. omega arith) ∙ c.heads b h; links = c.links });
      }

  pub index-elsewhere : {hashed : List ℕ → ℕ} {pool : List ℕ} {names : List (List ℕ)} → Index hashed e pool names → Repeating e' pool → ((s : ℕ) → s < SLOTS → Marks names (seen e' s 2) (part pool (seen e' s 0) (seen e' s 1))) → Index hashed e' pool names
  index-elsewhere {pool = pool} g repeating places =
      record {
        chains = chains-elsewhere g.chains;
        used = same USED (λ x y. omega arith) ∙ g.used;
        marks = rw count_same (λ m h. rw (word_same (suc m) MARK, name-same pool (suc m)) (g.marks m h));
        covered = λ bytes q.
            rw (count_same, latest-same (is_named e pool bytes) (is_named e' pool bytes) (count_of e) (λ m h. rw (name-same pool (suc m)) refl)) (g.covered bytes q);
        repeating = repeating;
        places = places;
      }

-- A word is written on which nothing depends: how hard the names are, or which place makes room for the next.
module _ (e : List ℕ) (j x : ℕ) (low : HARD ≤ j) (high : j ≤ NEXT) where
  other : (i : ℕ) → (i ≡ j → ⊥) → get_or (set e j x) i 0 ≡ get_or e i 0
  other i d = get_or-set_other e j i x 0 d

  pub chains-noted : {hashed : List ℕ → ℕ} {pool : List ℕ} → Chains hashed e pool → Chains hashed (set e j x) pool
  chains-noted g = chains-elsewhere e (set e j x) (length-set e j x) (λ i h. other i (λ z. h (omega arith) (omega arith))) g

  pub index-noted : {hashed : List ℕ → ℕ} {pool : List ℕ} {names : List (List ℕ)} → Index hashed e pool names → Index hashed (set e j x) pool names
  index-noted g =
      index-elsewhere e (set e j x) (length-set e j x) (λ i h. other i (λ z. h (omega arith) (omega arith))) g
      (rw (other START (λ z. omega arith), other SIZE (λ z. omega arith), other STEP (λ z. omega arith)) g.repeating)
      (λ s h. rw (other (PLACES + 3 * s + 0) (λ z. omega arith), other (PLACES + 3 * s + 1) (λ z. omega arith), other (PLACES + 3 * s + 2) (λ z. omega arith)) (g.places s h))

-- Another stretch of the pool is known.
module _ (e : List ℕ) (start size step : ℕ) (long : ENTRIES ≤ length e) where
  pub length-stretched : length (stretched e start size step) ≡ length e
  unfolding stretched
  length-stretched = simp length-set

  pub stretched-kept : (i : ℕ) → (START ≤ i → i ≤ STEP → ⊥) → get_or (stretched e start size step) i 0 ≡ get_or e i 0
  unfolding stretched
  stretched-kept i h =
      let a : i ≡ START → ⊥ = λ z. h (omega arith) (omega arith) in
      let b : i ≡ SIZE → ⊥ = λ z. h (omega arith) (omega arith) in
      let c : i ≡ STEP → ⊥ = λ z. h (omega arith) (omega arith) in
      simp (get_or-set_other, a, b, c)

  own-stretch : (get_or (stretched e start size step) START 0 ≡ start) × (get_or (stretched e start size step) SIZE 0 ≡ size) × (get_or (stretched e start size step) STEP 0 ≡ step)
  unfolding stretched
  own-stretch =
      let a = set e START start in
      let b = set a SIZE size in
      let l₁ : SIZE < length a = rw length-set (omega arith) in
      let l₂ : STEP < length b = rw (length-set, length-set) (omega arith) in (
        get_or-set_other b STEP START step 0 (λ z. omega arith) ∙ get_or-set_other a SIZE START size 0 (λ z. omega arith) ∙ get_or-set_same e START start 0 (omega arith),
        get_or-set_other b STEP SIZE step 0 (λ z. omega arith) ∙ get_or-set_same a SIZE size 0 l₁,
        get_or-set_same b STEP step 0 l₂,
      )

  pub index-stretched : {hashed : List ℕ → ℕ} {pool : List ℕ} {names : List (List ℕ)} → Index hashed e pool names → Repeats pool start size step → Index hashed (stretched e start size step) pool names
  index-stretched g is =
      index-elsewhere e (stretched e start size step) length-stretched (λ i h. stretched-kept i (λ x y. h (omega arith) (omega arith))) g
      (rw (own-stretch.0, own-stretch.1, own-stretch.2) is)
      (λ s h. rw (stretched-kept (PLACES + 3 * s + 0) (λ x y. omega arith), stretched-kept (PLACES + 3 * s + 1) (λ x y. omega arith), stretched-kept (PLACES + 3 * s + 2) (λ x y. omega arith)) (g.places s h))

-- A place and its mark are remembered.
module _ (e : List ℕ) (s offset size mark : ℕ) (low : s < SLOTS) (long : ENTRIES ≤ length e) where
  pub length-remembered : length (remembered e s offset size mark) ≡ length e
  unfolding remembered
  length-remembered = simp length-set

  pub other-words : (i : ℕ) → (i ≡ PLACES + 3 * s + 0 → ⊥) → (i ≡ PLACES + 3 * s + 1 → ⊥) → (i ≡ PLACES + 3 * s + 2 → ⊥) → get_or (remembered e s offset size mark) i 0 ≡ get_or e i 0
  unfolding remembered
  other-words i a b c = simp (get_or-set_other, a, b, c)

  own-words : (seen (remembered e s offset size mark) s 0 ≡ offset) × (seen (remembered e s offset size mark) s 1 ≡ size) × (seen (remembered e s offset size mark) s 2 ≡ mark)
  unfolding remembered
  own-words =
      let a = set e (PLACES + 3 * s + 0) offset in
      let b = set a (PLACES + 3 * s + 1) size in
      let l₁ : PLACES + 3 * s + 1 < length a = rw length-set (omega arith) in
      let l₂ : PLACES + 3 * s + 2 < length b = rw (length-set, length-set) (omega arith) in (
        get_or-set_other b (PLACES + 3 * s + 2) (PLACES + 3 * s + 0) mark 0 (λ z. omega arith) ∙ get_or-set_other a (PLACES + 3 * s + 1) (PLACES + 3 * s + 0) size 0 (λ z. omega arith) ∙ get_or-set_same e (PLACES + 3 * s + 0) offset 0 (omega arith),
        get_or-set_other b (PLACES + 3 * s + 2) (PLACES + 3 * s + 1) mark 0 (λ z. omega arith) ∙ get_or-set_same a (PLACES + 3 * s + 1) size 0 l₁,
        get_or-set_same b (PLACES + 3 * s + 2) mark 0 l₂,
      )

  pub index-remembered : {hashed : List ℕ → ℕ} {pool : List ℕ} {names : List (List ℕ)} → Index hashed e pool names → Marks names mark (part pool offset size) → Index hashed (remembered e s offset size mark) pool names
  index-remembered g is =
      index-elsewhere e (remembered e s offset size mark) length-remembered (λ i h. other-words i (λ z. h (omega arith) (omega arith)) (λ z. h (omega arith) (omega arith)) (λ z. h (omega arith) (omega arith))) g
      (rw (
        other-words START (λ z. omega arith) (λ z. omega arith) (λ z. omega arith),
        other-words SIZE (λ z. omega arith) (λ z. omega arith) (λ z. omega arith),
        other-words STEP (λ z. omega arith) (λ z. omega arith) (λ z. omega arith),
      ) g.repeating)
      (λ q h.
      by_cases (eqb q s)
      (λ t. rw (eqb-true q s t, own-words.0, own-words.1, own-words.2) is)
      (λ t.
      let d = eqb-false q s t in
      rw (
        other-words (PLACES + 3 * q + 0) (λ z. d (omega arith)) (λ z. omega arith) (λ z. omega arith),
        other-words (PLACES + 3 * q + 1) (λ z. omega arith) (λ z. d (omega arith)) (λ z. omega arith),
        other-words (PLACES + 3 * q + 2) (λ z. omega arith) (λ z. omega arith) (λ z. d (omega arith)),
      ) (g.places q h)))

-- Zeros are the index of no names.
pub index-none : {hashed : List ℕ → ℕ} {e pool : List ℕ} → ENTRIES + WIDTH ≤ length e → ((i : ℕ) → get_or e i 0 ≡ 0) → Index hashed e pool []
unfolding joined
index-none {e = e} room zero =
    let none : count_of e ≡ 0 = zero COUNT in
    record {
      chains = record {
        room = rw none (omega arith);
        each = λ m h. absurd (omega arith);
        chained = rw none (chain-none BUCKETS (bucket_at e) (head_at e) (link_at e) (λ b h. zero b));
      };
      used = zero USED;
      marks = λ m h. absurd (omega arith);
      covered = λ bytes q. absurd (true-not-false q refl);
      repeating = λ i h. let z = zero SIZE in absurd (omega arith);
      places = λ s h i. let z = zero (PLACES + 3 * s + 2) in absurd (omega arith);
    }
