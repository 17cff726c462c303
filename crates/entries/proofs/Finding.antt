-- A name is found along the chain of its hash.
-- Assumes nothing.
use Prim.Native.Nat.{ℕ, zero, suc, ◌%◌, ◌≤◌, ◌<◌}
use mathlib.Core.Path.{◌≡◌, sym, ap, ◌∙◌}
use mathlib.Core.Bool.{false}
use mathlib.Core.List.{List}
use native.Mathlib.Omega.{arith}
use lib.ListN.{length}
use Rattle.rules.proofs.Lists.{same_bytes-equal, unequal-same_bytes}
use Rattle.chains.specs.Chains.{Search}
use Rattle.tables.specs.Tables.{hash_in}
use Rattle.entries.specs.Entries.{BUCKETS, LENGTH, HASH, last_number, tables_of, word, name_at, is_named, bucket_at, head_at, link_at, Entry, Entries}

module _ (e pool : List ℕ) (g : Entries e pool) where
  pub entry : (n : ℕ) → 0 < n → n ≤ last_number e → Entry e pool n
  entry zero h l = absurd (omega arith)
  entry (suc m) h l = g.each m l

  -- Names of another length are others.
  pub other_length : (name : List ℕ) (n : ℕ) → 0 < n → n ≤ last_number e → (word e n LENGTH ≡ length name → ⊥) → false ≡ is_named e pool name n
  other_length name n i l d = sym (unequal-same_bytes (name_at e pool n) name (λ s. d ((entry n i l).size ∙ ap length s)))

  module _ (name : List ℕ) (hash : ℕ) (h : hash ≡ hash_in (tables_of e) name) where
    -- Names of another hash are others.
    pub other-hash : (n : ℕ) → 0 < n → n ≤ last_number e → (word e n HASH ≡ hash → ⊥) → false ≡ is_named e pool name n
    other-hash n i l d = sym (unequal-same_bytes (name_at e pool n) name (λ s. d ((entry n i l).hash ∙ ap (hash_in (tables_of e)) s ∙ sym h)))

    -- The search along the chain of the hash finds every number of the name.
    pub name-search : Search BUCKETS (bucket_at e) (head_at e) (link_at e) (last_number e) (hash % BUCKETS) (is_named e pool name)
    name-search =
        record {
          chained = g.chained;
          within = omega arith;
          narrow = λ m l t. ap (λ x. x % BUCKETS) ((g.each m l).hash ∙ ap (hash_in (tables_of e)) (same_bytes-equal (name_at e pool (suc m)) name t) ∙ sym h);
        }
