-- Chains of numbers through buckets. Numbers are counted from 1, and 0 ends a chain.
use Rattle.std.specs.Prelude.{ℕ, zero, suc, ◌≤◌, ◌<◌, ◌≡◌, Bool, true, cond, eqb}

-- the last of the numbers 1 to n that passes the test; 0: none does
unfoldable pub latest : (ℕ → Bool) → ℕ → ℕ
latest test zero = 0
latest test (suc n) = cond (test (suc n)) (suc n) (latest test n)

-- The number is in bucket b.
abbrev pub is_in : (ℕ → ℕ) → ℕ → ℕ → Bool
is_in bucket b m = eqb (bucket m) b

-- The chains of the numbers 1 to n: the head of a bucket is its last number, and the link of a number is the one before it in its
-- bucket. A number whose bucket is none of the buckets is in no chain.
pub record Chained (buckets : ℕ) (bucket head link : ℕ → ℕ) (n : ℕ) : Type 0 where
  pub heads : (b : ℕ) → b < buckets → head b ≡ latest (is_in bucket b) n
  pub links : (m : ℕ) → m < n → bucket (suc m) < buckets → link (suc m) ≡ latest (is_in bucket (bucket (suc m))) m

-- A search along the chain of bucket b for the last number that passes a test, which only numbers of that bucket pass.
pub record Search (buckets : ℕ) (bucket head link : ℕ → ℕ) (n b : ℕ) (test : ℕ → Bool) : Type 0 where
  pub chained : Chained buckets bucket head link n
  pub within : b < buckets
  pub narrow : (m : ℕ) → m < n → test (suc m) ≡ true → bucket (suc m) ≡ b

-- It has come to a number of the bucket, or to the end, and the numbers up to there decide.
pub record Walked (test : ℕ → Bool) (bucket : ℕ → ℕ) (b n at : ℕ) : Type 0 where
  pub within : at ≤ n
  pub inside : 0 < at → bucket at ≡ b
  pub rest : latest test at ≡ latest test n
