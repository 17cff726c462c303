-- The index stays right with one name more, which is new.
-- Assumes nothing.
use Prim.Native.Nat.{ℕ, suc, ◌+◌, ◌*◌, ◌%◌, ◌≤◌, ◌<◌}
use mathlib.Core.Path.{◌≡◌, refl, sym, ap, ◌∙◌}
use mathlib.Core.Bool.{true, false}
use mathlib.Core.List.{List, [], ◌∷◌, ◌++◌}
use native.Mathlib.Omega.{arith}
use borrow.Author.Tests.{eqb-true, eqb-false}
use lib.ListN.{length, length-append}
use lib.Dec.{eqb}
use Rattle.rules.specs.Lists.{any_of, same_bytes}
use Rattle.rules.specs.Table.{part}
use Rattle.rules.proofs.Lists.{by_cases, true-not-false, same_bytes-refl, same_bytes-equal, equal-same_bytes, any_of-append}
use Rattle.chains.specs.Chains.{latest, Chained}
use Rattle.chains.proofs.Laws.{latest-same, chain_same, chain_next}
use Rattle.packing.specs.Packing.{entered_all, joined}
use Rattle.packing.proofs.Growing.{joined-behind, start-new, start-kept, behind}
use Rattle.packed_index.specs.Index.{BUCKETS, START, SIZE, STEP, PLACES, ENTRIES, WIDTH, OFFSET, LENGTH, HASH, LINK, MARK, count_of, word, seen, name_at, is_named, bucket_at, head_at, link_at, Entry, Chains, mark_of, Marks, Index, followed}
use Rattle.packed_index.proofs.Following.{length-followed, count-followed, used-followed, words-followed, followed-kept, heads-followed}

-- The mark of a name stays when others are entered behind it.
mark-behind : (names more : List (List ℕ)) (bytes : List ℕ) → 0 < mark_of names bytes → mark_of (names ++ more) bytes ≡ mark_of names bytes
unfolding mark_of
mark-behind names more bytes h =
    by_cases (any_of (same_bytes bytes) names)
    (λ q. rw (any_of-append (same_bytes bytes) names more, q, start-kept names more bytes q) refl)
    (λ q. let z : 0 < 0 = rw q at h in absurd (omega arith))

pub marks-kept : (names uses : List (List ℕ)) {mark : ℕ} (bytes : List ℕ) → Marks names mark bytes → Marks (entered_all names uses) mark bytes
marks-kept names uses bytes is h =
    let b = behind names uses in
    let e = is h in
    e ∙ sym (rw b.same (mark-behind names b.more bytes (rw e at h)))

-- One name that is not there.
module _ (names : List (List ℕ)) (bytes : List ℕ) (new : any_of (same_bytes bytes) names ≡ false) where
  any-new : any_of (same_bytes bytes) (names ++ bytes ∷ []) ≡ true
  any-new = rw (any_of-append (same_bytes bytes) names (bytes ∷ []), new, same_bytes-refl bytes) refl

  pub mark-new : mark_of (names ++ bytes ∷ []) bytes ≡ length (joined names) + 1
  unfolding mark_of
  mark-new = rw (any-new, start-new names bytes new) refl

any-old : (names : List (List ℕ)) (new bytes : List ℕ) → same_bytes bytes new ≡ false → any_of (same_bytes bytes) (names ++ new ∷ []) ≡ true → any_of (same_bytes bytes) names ≡ true
any-old names new bytes d e =
    by_cases (any_of (same_bytes bytes) names)
    (λ q. q)
    (λ q. absurd (true-not-false e (rw (any_of-append (same_bytes bytes) names (new ∷ []), q, d) refl)))

module _ (e pool : List ℕ) (offset size hash : ℕ) (room : ENTRIES + WIDTH * (count_of e + 2) ≤ length e) where
  word_kept : (m k : ℕ) → m < count_of e + 1 → k < WIDTH → word (followed e offset size hash) m k ≡ word e m k
  word_kept m k h l = followed-kept e offset size hash room (ENTRIES + WIDTH * m + k) (omega arith) (omega arith)

  name-kept : (m : ℕ) → m < count_of e + 1 → name_at (followed e offset size hash) pool m ≡ name_at e pool m
  name-kept m h = rw (word_kept m OFFSET h (omega arith), word_kept m LENGTH h (omega arith))

  name-followed : name_at (followed e offset size hash) pool (count_of e + 1) ≡ part pool offset size
  name-followed = rw ((words-followed e offset size hash room).0, (words-followed e offset size hash room).1)

  module _ {hashed : List ℕ → ℕ} (h : hash ≡ hashed (part pool offset size)) (sized : size ≡ length (part pool offset size)) where
    chains-followed : Chains hashed e pool → Chains hashed (followed e offset size hash) pool
    chains-followed g =
        let last = count-followed e offset size hash room in
        let new = words-followed e offset size hash room in
        let s : suc (count_of e) ≡ count_of e + 1 = omega arith in
        let chained : Chained BUCKETS (bucket_at (followed e offset size hash)) (head_at (followed e offset size hash)) (link_at (followed e offset size hash)) (count_of e + 1) =
        rw (← s)
        (chain_next BUCKETS
        (chain_same BUCKETS g.chained (bucket_at (followed e offset size hash)) (link_at (followed e offset size hash))
        (λ m i. ap (λ x. x % BUCKETS) (word_kept (suc m) HASH (omega arith) (omega arith)))
        (λ m i. word_kept (suc m) LINK (omega arith) (omega arith)))
        (head_at (followed e offset size hash))
        (λ b i. rw (s, new.2) (heads-followed e offset size hash room b i))
        (λ i. rw (s, new.2) new.3))
        in
        let each : (m : ℕ) → m < count_of e + 1 → Entry hashed (followed e offset size hash) pool (suc m) =
        λ m l.
        by_cases (eqb m (count_of e))
        (λ t.
        let at : suc m ≡ count_of e + 1 = (let d = eqb-true m (count_of e) t in omega arith) in
        rw at
        record {
          size = new.1 ∙ sized ∙ ap length (sym name-followed);
          hash = new.2 ∙ h ∙ ap hashed (sym name-followed);
        })
        (λ t.
        let d = eqb-false m (count_of e) t in
        let old = g.each m (omega arith) in
        let kept = name-kept (suc m) (omega arith) in
        record {
          size = word_kept (suc m) LENGTH (omega arith) (omega arith) ∙ old.size ∙ ap length (sym kept);
          hash = word_kept (suc m) HASH (omega arith) (omega arith) ∙ old.hash ∙ ap hashed (sym kept);
        })
        in
        record {
          room = rw (last, length-followed e offset size hash room) (omega arith);
          each = rw last each;
          chained = rw last chained;
        }

    -- The names with the new one.
    module _ {names : List (List ℕ)} (g : Index hashed e pool names) (new : any_of (same_bytes (part pool offset size)) names ≡ false) where
      marks-followed : (m : ℕ) → m < count_of e + 1 → (0 < word (followed e offset size hash) (suc m) MARK) × (word (followed e offset size hash) (suc m) MARK ≡ mark_of (names ++ part pool offset size ∷ []) (name_at (followed e offset size hash) pool (suc m)))
      marks-followed m l =
          by_cases (eqb m (count_of e))
          (λ t.
          let at : suc m ≡ count_of e + 1 = (let d = eqb-true m (count_of e) t in omega arith) in
          rw (at, name-followed, (words-followed e offset size hash room).4) (omega arith, rw g.used (sym (mark-new names (part pool offset size) new))))
          (λ t.
          let d = eqb-false m (count_of e) t in
          let old = g.marks m (omega arith) in
          rw (word_kept (suc m) MARK (omega arith) (omega arith), name-kept (suc m) (omega arith))
          (old.0, old.1 ∙ sym (mark-behind names (part pool offset size ∷ []) (name_at e pool (suc m)) (rw old.1 at old.0))))

      covered-followed : (bytes : List ℕ) → any_of (same_bytes bytes) (names ++ part pool offset size ∷ []) ≡ true → 0 < latest (is_named (followed e offset size hash) pool bytes) (suc (count_of e))
      unfolding latest
      covered-followed bytes held =
          let s : suc (count_of e) ≡ count_of e + 1 = omega arith in
          let before : latest (is_named (followed e offset size hash) pool bytes) (count_of e) ≡ latest (is_named e pool bytes) (count_of e) =
          latest-same (is_named e pool bytes) (is_named (followed e offset size hash) pool bytes) (count_of e) (λ m i. rw (name-kept (suc m) (omega arith)) refl)
          in
          by_cases (is_named (followed e offset size hash) pool bytes (suc (count_of e)))
          (λ q. rw q (omega arith))
          (λ q.
          let other : same_bytes bytes (part pool offset size) ≡ false =
          by_cases (same_bytes bytes (part pool offset size))
          (λ same. absurd (true-not-false (rw (s, name-followed) (equal-same_bytes (sym (same_bytes-equal bytes (part pool offset size) same)))) q))
          (λ d. d)
          in
          rw (q, before) (g.covered bytes (any-old names (part pool offset size) bytes other held)))

      pub index-followed : Index hashed (followed e offset size hash) pool (names ++ part pool offset size ∷ [])
      index-followed =
          let last = count-followed e offset size hash room in
          let s : suc (count_of e) ≡ count_of e + 1 = omega arith in
          record {
            chains = chains-followed g.chains;
            used = used-followed e offset size hash room ∙ rw (g.used, joined-behind names (part pool offset size), length-append) (ap (λ (k : ℕ). length (joined names) + k) sized);
            marks = rw last marks-followed;
            covered = rw (last, ← s) covered-followed;
            repeating =
                let a = followed-kept e offset size hash room START (omega arith) (omega arith) in
                let b = followed-kept e offset size hash room SIZE (omega arith) (omega arith) in
                let c = followed-kept e offset size hash room STEP (omega arith) (omega arith) in
                rw (a, b, c) g.repeating;
            places = λ i j positive.
                let k₀ = followed-kept e offset size hash room (PLACES + 3 * i + 0) (omega arith) (omega arith) in
                let k₁ = followed-kept e offset size hash room (PLACES + 3 * i + 1) (omega arith) (omega arith) in
                let k₂ = followed-kept e offset size hash room (PLACES + 3 * i + 2) (omega arith) (omega arith) in
                let is = g.places i j (rw k₂ at positive) in
                rw (k₀, k₁, k₂) (is ∙ sym (mark-behind names (part pool offset size ∷ []) (part pool (seen e i 0) (seen e i 1)) (rw is at (rw k₂ at positive))));
          }
