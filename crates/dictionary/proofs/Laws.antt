-- What the callers of a dictionary rest on.
-- Assumes nothing.
use Prim.Native.Nat.{ℕ, ◌+◌, ◌*◌, ◌≤◌, ◌<◌}
use mathlib.Core.Path.{◌≡◌, sym, ap, ◌∙◌}
use mathlib.Core.Bool.{false}
use mathlib.Core.List.{List}
use native.Mathlib.Omega.{arith}
use borrow.Author.Tests.{eqb-true, eqb-false, ltb-true, ltb-false}
use lib.ListN.{length, get_or, drop, replicate, length-drop, length-replicate, get_or-replicate, get_or-eq_default}
use lib.Seq.{get_or-drop}
use lib.Dec.{eqb, ltb}
use Rattle.rules.specs.Lists.{same_bytes}
use Rattle.rules.specs.Table.{part}
use Rattle.rules.proofs.Lists.{by_cases, equal-same_bytes, same_bytes-sym}
use Rattle.numbers.specs.Numbers.{Spelling}
use Rattle.chains.proofs.Laws.{chain-none}
use Rattle.entries.specs.Entries.{BUCKETS, LAST, NAMES, WIDTH, LENGTH, KIND, last_number, name_at, bucket_at, head_at, link_at, Entries, Denotes}
use Rattle.dictionary.specs.Dictionary.{PLACES, entries_of, last_of, spelling, Dictionary}
use Rattle.entries.proofs.Finding.{entry}
use Rattle.entries.proofs.PoolTables.{tables-none}

-- The numbers of a dictionary stand for names, and no two for the same.
pub spelled : {d pool : List ℕ} → Dictionary d pool → Spelling (spelling d pool) (last_of d)
spelled {d} {pool} g =
    let e = entries_of d in
    let smaller : (m n : ℕ) → m < n → n ≤ last_number e → same_bytes (name_at e pool m) (name_at e pool n) ≡ false = λ m n l h. (entry e pool g.entries n (omega arith) h).new m l in
    record {
      empty = rw g.entries.empty;
      distinct = λ m n p q.
          by_cases (eqb m n)
          (λ t. t ∙ sym (equal-same_bytes (ap (name_at e pool) (eqb-true m n t))))
          (λ t.
          by_cases (ltb m n)
          (λ l. t ∙ sym (smaller m n (ltb-true m n l) q))
          (λ l.
          let other = eqb-false m n t in
          let most = ltb-false m n l in
          let less : n < m = omega arith in
          t ∙ sym (smaller n m less p) ∙ same_bytes-sym (name_at e pool n) (name_at e pool m)));
    }

-- A number that denotes a name has its words.
pub has_words : {d pool name : List ℕ} → Dictionary d pool → (n : ℕ) → Denotes (entries_of d) pool n name → PLACES + NAMES + WIDTH * n + WIDTH ≤ length d
unfolding entries_of
has_words g n named =
    let room = rw length-drop at g.entries.room in
    let known = named.known in
    omega arith

pub has_last : {d pool : List ℕ} → Dictionary d pool → PLACES + NAMES ≤ length d
unfolding entries_of
has_last g = let room = rw length-drop at g.entries.room in omega arith

-- Zeros are a dictionary.
zeros : (size i : ℕ) → ◌≡◌ {A = ℕ} (get_or (replicate size 0) i 0) 0
zeros size i =
    by_cases (ltb i size)
    (λ l. get_or-replicate size i 0 0 (ltb-true i size l))
    (λ l. let long = ltb-false i size l in get_or-eq_default (replicate size 0) 0 (rw length-replicate long))

module _ (e pool : List ℕ) (zero : (i : ℕ) → get_or e i 0 ≡ 0) where
  zero-entries : NAMES + WIDTH ≤ length e → Entries e pool
  zero-entries room =
      let last : last_number e ≡ 0 = zero LAST in
      record {
        room = omega arith;
        tables = tables-none e pool (omega arith) zero;
        empty = zero (NAMES + WIDTH * 0 + LENGTH);
        kind = zero (NAMES + WIDTH * 0 + KIND);
        each = λ m l. absurd (omega arith);
        chained = rw last (chain-none BUCKETS (bucket_at e) (head_at e) (link_at e) (λ b h. zero b));
      }

  zero-name : name_at e pool 0 ≡ part pool 0 0
  zero-name = rw (zero (NAMES + WIDTH * 0 + LENGTH))

pub cleared : (size : ℕ) (pool : List ℕ) → PLACES + NAMES + WIDTH ≤ size → Dictionary (replicate size 0) pool
unfolding entries_of
cleared size pool room =
    let d : List ℕ = replicate size 0 in
    let zero : (i : ℕ) → get_or (drop PLACES d) i 0 ≡ 0 = λ i. get_or-drop PLACES d i 0 ∙ zeros size (PLACES + i) in
    record {
      entries = zero-entries (drop PLACES d) pool zero (rw (length-drop, length-replicate) (omega arith));
      places = λ s h. rw (zeros size (3 * s + 0), zeros size (3 * s + 1), zeros size (3 * s + 2)) (record { known = omega arith; spelled = zero-name (drop PLACES d) pool zero });
    }

pub none-given : (size : ℕ) → last_of (replicate size 0) ≤ 0
unfolding entries_of
none-given size = let z = get_or-drop PLACES (replicate size 0) LAST 0 ∙ zeros size (PLACES + LAST) in omega arith
