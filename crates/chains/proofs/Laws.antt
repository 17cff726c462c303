-- Entering a number into the chains, and walking along a chain for any test that only numbers of its bucket pass.
-- Assumes nothing.
use Prim.Native.Nat.{ℕ, zero, suc, ◌-◌, ◌≤◌, ◌<◌}
use mathlib.Core.Path.{◌≡◌, refl, sym, ap, ◌∙◌}
use mathlib.Core.Bool.{Bool, true, false, cond}
use native.Mathlib.Omega.{arith}
use borrow.Author.Tests.{eqb-true, eqb-false, eq-eqb}
use lib.Dec.{eqb}
use Rattle.rules.proofs.Lists.{by_cases, true-not-false}
use Rattle.chains.specs.Chains.{latest, is_in, Chained, Search, Walked}

module _ (test : ℕ → Bool) where
  pub latest-within : (n : ℕ) → latest test n ≤ n
  unfolding latest
  latest-within zero = omega arith
  latest-within (suc n) = by_cases (test (suc n)) (λ e. rw e (omega arith)) (λ e. rw e (omega (arith, latest-within n)))

  pub latest-passes : (n : ℕ) → 0 < latest test n → test (latest test n) ≡ true
  unfolding latest
  latest-passes zero h = absurd (omega arith)
  latest-passes (suc n) h = by_cases (test (suc n)) (λ e. rw e e) (λ e. rw e (latest-passes n (rw e at h)))

  latest-here : (n : ℕ) → 0 < n → test n ≡ true → latest test n ≡ n
  unfolding latest
  latest-here zero h e = absurd (omega arith)
  latest-here (suc n) h e = rw e

  latest-past : (n : ℕ) → 0 < n → test n ≡ false → latest test n ≡ latest test (n - 1)
  unfolding latest
  latest-past zero h e = absurd (omega arith)
  latest-past (suc n) h e = let s : n ≡ suc n - 1 = omega arith in rw e (ap (latest test) s)

  -- Where none is found, none passes.
  pub latest-none : (n : ℕ) → latest test n ≡ 0 → (m : ℕ) → m < n → test (suc m) ≡ false
  unfolding latest
  latest-none zero e m h = absurd (omega arith)
  latest-none (suc n) e m h =
      by_cases (test (suc n))
      (λ t. let f : suc n ≡ 0 = rw t at e in absurd (omega arith))
      (λ t. by_cases (eqb m n) (λ s. rw (eqb-true m n s) t) (λ s. latest-none n (rw t at e) m (let d = eqb-false m n s in omega arith)))

  -- The numbers up to n decide.
  pub latest-same : (other : ℕ → Bool) (n : ℕ) → ((m : ℕ) → m < n → other (suc m) ≡ test (suc m)) → latest other n ≡ latest test n
  unfolding latest
  latest-same other zero same = refl
  latest-same other (suc n) same =
      rw (same n (omega arith)) (ap (cond (test (suc n)) (suc n)) (latest-same other n (λ m h. same m (omega arith))))

  -- For a narrower test nothing is lost by going back to the last number that passes.
  latest-narrow : (narrow : ℕ → Bool) (n : ℕ) → ((m : ℕ) → m < n → narrow (suc m) ≡ true → test (suc m) ≡ true) → latest narrow (latest test n) ≡ latest narrow n
  unfolding latest
  latest-narrow narrow zero within = refl
  latest-narrow narrow (suc n) within =
      by_cases (test (suc n))
      (λ e. rw e)
      (λ e. rw e
      (by_cases (narrow (suc n))
      (λ f. absurd (true-not-false (within n (omega arith) f) e))
      (λ f. rw f (latest-narrow narrow n (λ m h. within m (omega arith))))))

module _ (buckets : ℕ) where
  -- Heads of 0 are the chains of no numbers.
  pub chain-none : (bucket head link : ℕ → ℕ) → ((b : ℕ) → b < buckets → head b ≡ 0) → Chained buckets bucket head link 0
  unfolding latest
  chain-none bucket head link none = record { heads = none; links = λ m h i. absurd (omega arith) }

  -- Only the buckets and links of the numbers 1 to n matter.
  pub chain_same :
      {bucket head link : ℕ → ℕ} {n : ℕ} → Chained buckets bucket head link n → (after next : ℕ → ℕ)
      → ((m : ℕ) → m < n → after (suc m) ≡ bucket (suc m)) → ((m : ℕ) → m < n → next (suc m) ≡ link (suc m)) → Chained buckets after head next n
  chain_same {bucket} c after next same kept =
      let again : (b m : ℕ) → ((k : ℕ) → k < m → after (suc k) ≡ bucket (suc k)) → latest (is_in bucket b) m ≡ latest (is_in after b) m =
      λ b m h. sym (latest-same (is_in bucket b) (is_in after b) m (λ k i. ap (λ x. eqb x b) (h k i))) in
      record {
        heads = λ b h. c.heads b h ∙ again b _ same;
        links = λ m h i. kept m h ∙ c.links m h (rw (same m h) at i) ∙ rw (same m h) (again (bucket (suc m)) m (λ k l. same k (omega arith)));
      }

  -- The next number is entered: its bucket's head becomes the number, and its link what the head was. If it is in no bucket, the heads
  -- stay, and its link does not matter.
  pub chain_next :
      {bucket head link : ℕ → ℕ} {n : ℕ} → Chained buckets bucket head link n → (front : ℕ → ℕ)
      → ((b : ℕ) → b < buckets → front b ≡ cond (eqb (bucket (suc n)) b) (suc n) (head b)) → (bucket (suc n) < buckets → link (suc n) ≡ head (bucket (suc n)))
      → Chained buckets bucket front link (suc n)
  unfolding latest
  chain_next {bucket} {n = n} c front first before =
      record {
        heads = λ b h. first b h ∙ ap (cond (eqb (bucket (suc n)) b) (suc n)) (c.heads b h);
        links = λ m h i.
            by_cases (eqb m n)
            (λ e. rw (eqb-true m n e) (before (rw (eqb-true m n e) at i) ∙ c.heads (bucket (suc n)) (rw (eqb-true m n e) at i)))
            (λ e. let d = eqb-false m n e in c.links m (omega arith) i);
      }

module _ {buckets : ℕ} {bucket head link : ℕ → ℕ} {n b : ℕ} {test : ℕ → Bool} (s : Search buckets bucket head link n b test) where
  from-latest : (m : ℕ) → m ≤ n → latest test m ≡ latest test n → (at : ℕ) → at ≡ latest (is_in bucket b) m → Walked test bucket b n at
  from-latest m l rest at e =
      record {
        within = rw e (omega (arith, latest-within (is_in bucket b) m));
        inside = λ i. rw e (eqb-true (bucket (latest (is_in bucket b) m)) b (latest-passes (is_in bucket b) m (rw e at i)));
        rest = rw e (latest-narrow (is_in bucket b) test m (λ k i t. eq-eqb (bucket (suc k)) b (s.narrow k (omega arith) t))) ∙ rest;
      }

  pub walk_start : (at : ℕ) → at ≡ head b → Walked test bucket b n at
  walk_start at e = from-latest n (omega arith) refl at (e ∙ s.chained.heads b s.within)

  module _ (at : ℕ) (w : Walked test bucket b n at) where
    pub walk_end : at ≤ 0 → latest test n ≡ 0
    unfolding latest
    walk_end i = let z : at ≡ 0 = omega arith in sym w.rest ∙ rw z

    module _ (i : 0 < at) where
      pub walk-found : test at ≡ true → latest test n ≡ at
      walk-found t = sym w.rest ∙ latest-here test at i t

      module _ (next : ℕ) (e : next ≡ link at) where
        back : next ≡ latest (is_in bucket b) (at - 1)
        back =
            let p : at ≡ suc (at - 1) = omega arith in
            let l : at ≤ n = w.within in
            e ∙ ap link p ∙ s.chained.links (at - 1) (omega arith) (rw (← p, w.inside i) s.within) ∙ ap (λ a. latest (is_in bucket a) (at - 1)) (rw (← p) (w.inside i))

        pub walk-falls : next < at
        walk-falls = rw back (omega (arith, latest-within (is_in bucket b) (at - 1)))

        pub walk-next : test at ≡ false → Walked test bucket b n next
        walk-next t =
            let l : at ≤ n = w.within in
            from-latest (at - 1) (omega arith) (sym (latest-past test at i t) ∙ w.rest) next back
