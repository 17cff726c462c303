-- A name is found along the chain of its hash.
-- Assumes nothing.
use Prim.Native.Nat.{ℕ, zero, suc, ◌%◌, ◌≤◌, ◌<◌}
use mathlib.Core.Path.{◌≡◌, sym, ap, ◌∙◌}
use mathlib.Core.Bool.{true, false}
use mathlib.Core.List.{List}
use native.Mathlib.Omega.{arith}
use lib.ListN.{length}
use Rattle.rules.specs.Lists.{any_of, same_bytes}
use Rattle.rules.proofs.Lists.{by_cases, same_bytes-equal, unequal-same_bytes}
use Rattle.chains.specs.Chains.{latest, Search}
use Rattle.chains.proofs.Laws.{latest-within, latest-passes}
use Rattle.packed_index.specs.Index.{BUCKETS, LENGTH, HASH, MARK, count_of, word, name_at, is_named, bucket_at, head_at, link_at, Entry, Chains, mark_of, Index}

module _ (hashed : List ℕ → ℕ) (e pool : List ℕ) (g : Chains hashed e pool) where
  pub entry : (n : ℕ) → 0 < n → n ≤ count_of e → Entry hashed e pool n
  entry zero h l = absurd (omega arith)
  entry (suc m) h l = g.each m l

  -- Names of another length are others.
  pub other_length : (name : List ℕ) (n : ℕ) → 0 < n → n ≤ count_of e → (word e n LENGTH ≡ length name → ⊥) → false ≡ is_named e pool name n
  other_length name n i l d = sym (unequal-same_bytes (name_at e pool n) name (λ s. d ((entry n i l).size ∙ ap length s)))

  module _ (name : List ℕ) (hash : ℕ) (h : hash ≡ hashed name) where
    -- Names of another hash are others.
    pub other-hash : (n : ℕ) → 0 < n → n ≤ count_of e → (word e n HASH ≡ hash → ⊥) → false ≡ is_named e pool name n
    other-hash n i l d = sym (unequal-same_bytes (name_at e pool n) name (λ s. d ((entry n i l).hash ∙ ap hashed s ∙ sym h)))

    -- The search along the chain of the hash finds every number of the name.
    pub name-search : Search BUCKETS (bucket_at e) (head_at e) (link_at e) (count_of e) (hash % BUCKETS) (is_named e pool name)
    name-search =
        record {
          chained = g.chained;
          within = omega arith;
          narrow = λ m l t. ap (λ x. x % BUCKETS) ((g.each m l).hash ∙ ap hashed (same_bytes-equal (name_at e pool (suc m)) name t) ∙ sym h);
        }

-- What a search tells of the names.
module _ {hashed : List ℕ → ℕ} {e pool : List ℕ} {names : List (List ℕ)} (g : Index hashed e pool names) (bytes : List ℕ) where
  found-mark : (n : ℕ) → 0 < n → n ≤ count_of e → is_named e pool bytes n ≡ true → (0 < word e n MARK) × (word e n MARK ≡ mark_of names bytes)
  found-mark zero h l t = absurd (omega arith)
  found-mark (suc m) h l t = ((g.marks m l).0, (g.marks m l).1 ∙ ap (mark_of names) (same_bytes-equal (name_at e pool (suc m)) bytes t))

  pub found : (n : ℕ) → n ≡ latest (is_named e pool bytes) (count_of e) → 0 < n → (0 < word e n MARK) × (word e n MARK ≡ mark_of names bytes)
  found n is h =
      let within = latest-within (is_named e pool bytes) (count_of e) in
      found-mark n h (rw is within) (rw is (latest-passes (is_named e pool bytes) (count_of e) (rw is at h)))

  pub not_found : latest (is_named e pool bytes) (count_of e) ≡ 0 → any_of (same_bytes bytes) names ≡ false
  not_found z =
      by_cases (any_of (same_bytes bytes) names)
      (λ q. let some = g.covered bytes q in absurd (omega arith))
      (λ q. q)

-- What has a mark is there.
pub mark-held : (names : List (List ℕ)) (bytes : List ℕ) → 0 < mark_of names bytes → any_of (same_bytes bytes) names ≡ true
unfolding mark_of
mark-held names bytes h =
    by_cases (any_of (same_bytes bytes) names)
    (λ q. q)
    (λ q. let z : 0 < 0 = rw q at h in absurd (omega arith))
