-- The entries stay right with one more, of a name that is not entered.
-- Assumes nothing.
use Prim.Native.Nat.{ℕ, zero, suc, ◌+◌, ◌*◌, ◌%◌, ◌≤◌, ◌<◌}
use mathlib.Core.Path.{◌≡◌, refl, sym, ap, subst, ◌∙◌}
use mathlib.Core.Bool.{false}
use mathlib.Core.List.{List, [], ◌∷◌}
use native.Mathlib.Omega.{arith}
use borrow.Author.Tests.{eqb-true, eqb-false}
use lib.ListN.{length}
use lib.Dec.{eqb}
use Rattle.rules.specs.Lists.{same_bytes}
use Rattle.rules.specs.Table.{part}
use Rattle.rules.proofs.Lists.{by_cases}
use Rattle.chains.specs.Chains.{latest, Chained}
use Rattle.chains.proofs.Laws.{latest-none, chain_same, chain_next}
use Rattle.kinds.specs.Kinds.{kind_of}
use Rattle.tables.specs.Tables.{hash_in, Tables}
use Rattle.entries.specs.Entries.{BUCKETS, NAMES, WIDTH, OFFSET, LENGTH, HASH, LINK, KIND, last_number, tables_of, word, name_at, is_named, bucket_at, head_at, link_at, Entry, Entries, entered}
use Rattle.entries.proofs.Entering.{length-entered, last-entered, words-entered, word_kept, tables-entered, heads-entered}

-- A name with bytes is not the empty one.
not-empty : (pool : List ℕ) (offset size : ℕ) (name : List ℕ) → size ≡ 0 → 0 < length name → same_bytes (part pool offset size) name ≡ false
not-empty pool offset size [] e h = absurd (omega arith)
not-empty pool offset size (b ∷ bs) e h = rw e

module _ (e pool : List ℕ) (offset size hash kind hard : ℕ) (room : NAMES + WIDTH * (last_number e + 2) ≤ length e) where
  pub name-kept : (m : ℕ) → m < last_number e + 1 → name_at (entered e offset size hash kind hard) pool m ≡ name_at e pool m
  name-kept m h = rw (word_kept e offset size hash kind hard room m OFFSET h (omega arith), word_kept e offset size hash kind hard room m LENGTH h (omega arith))

  pub name-entered : name_at (entered e offset size hash kind hard) pool (last_number e + 1) ≡ part pool offset size
  name-entered = rw ((words-entered e offset size hash kind hard room).0, (words-entered e offset size hash kind hard room).1)

  hash-kept : (name : List ℕ) {now : List ℕ} → now ≡ name → hash_in (tables_of e) name ≡ hash_in (tables_of (entered e offset size hash kind hard)) now
  hash-kept name s = rw (s, tables-entered e offset size hash kind hard room) refl

  module _ (g : Entries e pool) where
    chains-entered : Chained BUCKETS (bucket_at (entered e offset size hash kind hard)) (head_at (entered e offset size hash kind hard)) (link_at (entered e offset size hash kind hard)) (last_number e + 1)
    chains-entered =
        let s : suc (last_number e) ≡ last_number e + 1 = omega arith in
        let new = words-entered e offset size hash kind hard room in
        rw (← s)
        (chain_next BUCKETS
        (chain_same BUCKETS g.chained (bucket_at (entered e offset size hash kind hard)) (link_at (entered e offset size hash kind hard))
        (λ m h. ap (λ x. x % BUCKETS) (word_kept e offset size hash kind hard room (suc m) HASH (omega arith) (omega arith)))
        (λ m h. word_kept e offset size hash kind hard room (suc m) LINK (omega arith) (omega arith)))
        (head_at (entered e offset size hash kind hard))
        (λ b h. rw (s, new.2) (heads-entered e offset size hash kind hard room b h))
        (λ h. rw (s, new.2) new.3))

    module _ (h : hash ≡ hash_in (tables_of e) (part pool offset size)) (k : kind ≡ kind_of (part pool offset size)) (sized : size ≡ length (part pool offset size)) (full : 0 < length (part pool offset size)) (none : latest (is_named e pool (part pool offset size)) (last_number e) ≡ 0) where
      -- No number has the name.
      new-name : (m : ℕ) → m < last_number e + 1 → is_named e pool (part pool offset size) m ≡ false
      new-name zero l = not-empty pool (word e 0 OFFSET) (word e 0 LENGTH) (part pool offset size) g.empty full
      new-name (suc m) l = latest-none (is_named e pool (part pool offset size)) (last_number e) none m (omega arith)

      each-entered : (m : ℕ) → m < last_number e + 1 → Entry (entered e offset size hash kind hard) pool (suc m)
      each-entered m l =
          by_cases (eqb m (last_number e))
          (λ t.
          let s : suc m ≡ last_number e + 1 = (let d = eqb-true m (last_number e) t in omega arith) in
          let new = words-entered e offset size hash kind hard room in
          rw s
          record {
            size = new.1 ∙ sized ∙ ap length (sym name-entered);
            hash = new.2 ∙ h ∙ hash-kept (part pool offset size) name-entered;
            kind = new.4 ∙ k ∙ ap kind_of (sym name-entered);
            new = λ j i. rw (name-entered, name-kept j i) (new-name j i);
          })
          (λ t.
          let d = eqb-false m (last_number e) t in
          let old = g.each m (omega arith) in
          let kept = name-kept (suc m) (omega arith) in
          record {
            size = word_kept e offset size hash kind hard room (suc m) LENGTH (omega arith) (omega arith) ∙ old.size ∙ ap length (sym kept);
            hash = word_kept e offset size hash kind hard room (suc m) HASH (omega arith) (omega arith) ∙ old.hash ∙ hash-kept (name_at e pool (suc m)) kept;
            kind = word_kept e offset size hash kind hard room (suc m) KIND (omega arith) (omega arith) ∙ old.kind ∙ ap kind_of (sym kept);
            new = λ j i. rw (kept, name-kept j (omega arith)) (old.new j i);
          })

      pub entries-entered : Entries (entered e offset size hash kind hard) pool
      entries-entered =
          let last = last-entered e offset size hash kind hard room in
          record {
            room = rw (last, length-entered e offset size hash kind hard room) (omega arith);
            tables = subst (λ (t : List ℕ). Tables t pool) (sym (tables-entered e offset size hash kind hard room)) g.tables;
            empty = word_kept e offset size hash kind hard room 0 LENGTH (omega arith) (omega arith) ∙ g.empty;
            kind = word_kept e offset size hash kind hard room 0 KIND (omega arith) (omega arith) ∙ g.kind;
            each = rw last each-entered;
            chained = rw last chains-entered;
          }
