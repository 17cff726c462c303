-- The entries where it is written how hard their names are: nothing else depends on it.
-- Assumes nothing.
use Prim.Native.Nat.{ℕ, suc, ◌+◌, ◌*◌, ◌%◌}
use mathlib.Core.Path.{◌≡◌, refl, sym, ap, subst, ◌∙◌}
use mathlib.Core.List.{List}
use native.Mathlib.Omega.{arith}
use lib.ListN.{length, set, length-set}
use lib.Seq.{get_or-set_other}
use Rattle.chains.specs.Chains.{Chained}
use Rattle.chains.proofs.Laws.{chain_same}
use Rattle.kinds.specs.Kinds.{kind_of}
use Rattle.tables.specs.Tables.{Tables}
use Rattle.entries.specs.Entries.{BUCKETS, LAST, HARD, NAMES, WIDTH, OFFSET, LENGTH, HASH, LINK, KIND, last_number, word, name_at, bucket_at, head_at, link_at, Entry, Entries, Interned, HasRoom}
use Rattle.entries.proofs.PoolTables.{tables-before}

module _ (e pool : List ℕ) (x : ℕ) where
  word-counted : (n k : ℕ) → word (set e HARD x) n k ≡ word e n k
  word-counted n k = get_or-set_other e HARD (NAMES + WIDTH * n + k) x 0 (λ s. omega arith)

  last-counted : last_number (set e HARD x) ≡ last_number e
  last-counted = get_or-set_other e HARD LAST x 0 (λ s. omega arith)

  name-counted : (n : ℕ) → name_at (set e HARD x) pool n ≡ name_at e pool n
  name-counted n = rw (word-counted n OFFSET, word-counted n LENGTH)

  each-counted : (n : ℕ) → Entry e pool n → Entry (set e HARD x) pool n
  each-counted n old =
      let kept = name-counted n in
      record {
        size = word-counted n LENGTH ∙ old.size ∙ ap length (sym kept);
        hash = word-counted n HASH ∙ old.hash ∙ rw (kept, tables-before e HARD x (omega arith)) refl;
        kind = word-counted n KIND ∙ old.kind ∙ ap kind_of (sym kept);
        new = λ j i. rw (kept, name-counted j) (old.new j i);
      }

  chains-counted : Entries e pool → Chained BUCKETS (bucket_at (set e HARD x)) (head_at (set e HARD x)) (link_at (set e HARD x)) (last_number e)
  chains-counted g =
      let same = chain_same BUCKETS g.chained (bucket_at (set e HARD x)) (link_at (set e HARD x))
      (λ m h. ap (λ y. y % BUCKETS) (word-counted (suc m) HASH))
      (λ m h. word-counted (suc m) LINK) in
      record { heads = λ b h. get_or-set_other e HARD b x 0 (λ s. omega arith) ∙ same.heads b h; links = same.links }

  pub entries-counted : Entries e pool → Entries (set e HARD x) pool
  entries-counted g =
      let last = last-counted in
      record {
        room = rw (last, length-set) g.room;
        tables = subst (λ (t : List ℕ). Tables t pool) (sym (tables-before e HARD x (omega arith))) g.tables;
        empty = word-counted 0 LENGTH ∙ g.empty;
        kind = word-counted 0 KIND ∙ g.kind;
        each = rw last (λ m h. each-counted (suc m) (g.each m h));
        chained = rw last (chains-counted g);
      }

  pub room-counted : HasRoom e → HasRoom (set e HARD x)
  room-counted h = rw (last-counted, length-set) h

  pub interned-counted : {after name : List ℕ} {n : ℕ} → Interned (set e HARD x) after pool name n → Interned e after pool name n
  interned-counted i =
      let few = i.few in
      let last = last-counted in
      record {
        denotes = i.denotes;
        kept = λ m other d. i.kept m other record { known = rw last d.known; spelled = name-counted m ∙ d.spelled };
        few = omega arith;
      }
