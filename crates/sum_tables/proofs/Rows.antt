-- Rows of a table: writing one.
-- Assumes nothing.
use Prim.Native.Nat.{ℕ, zero, suc, ◌-◌, ◌+◌, ◌*◌, ◌/◌, ◌%◌, ◌≤◌, ◌<◌}
use mathlib.Core.Path.{◌≡◌, refl, ◌∙◌, ap}
use mathlib.Core.List.{List, []}
use native.Mathlib.Omega.{arith}
use lib.Dec.{eqb}
use lib.ListN.{length, get_or, set, take, drop, length-set}
use lib.Seq.{drop-drop, get_or-set_same, get_or-set_other}
use Rattle.std.specs.Simd.{first_chunks}
use borrow.Author.Tests.{eqb-true, eqb-false}
use Rattle.rules.proofs.Lists.{by_cases}
use Rattle.keyed.specs.Keyed.{between, sum_from}
use Rattle.sum_tables.specs.SumTables.{WORDS, number_at, put, put_row, Row}
use Rattle.keyed.proofs.Sums.{sum-taken}

-- Writing a number.
module _ (t : List ℕ) (i x : ℕ) where
  pub length-put : length (put t i x) ≡ length t
  unfolding put
  length-put = length-set (set t i (x % 65536)) (i + 1) (x / 65536) ∙ length-set t i (x % 65536)

  put_same : i + 1 < length t → number_at (put t i x) i ≡ x
  unfolding put
  put_same h =
      let a : get_or (set (set t i (x % 65536)) (i + 1) (x / 65536)) i 0 ≡ x % 65536 =
      get_or-set_other (set t i (x % 65536)) (i + 1) i (x / 65536) 0 (λ e. omega arith) ∙ get_or-set_same t i (x % 65536) 0 (omega arith) in
      let b : get_or (set (set t i (x % 65536)) (i + 1) (x / 65536)) (i + 1) 0 ≡ x / 65536 =
      get_or-set_same (set t i (x % 65536)) (i + 1) (x / 65536) 0 (rw length-set h) in
      rw (a, b) (omega arith)

  word-other : (j : ℕ) → (j ≡ i → ⊥) → (j ≡ i + 1 → ⊥) → get_or (put t i x) j 0 ≡ get_or t j 0
  unfolding put
  word-other j d f =
      get_or-set_other (set t i (x % 65536)) (i + 1) j (x / 65536) 0 f ∙ get_or-set_other t i j (x % 65536) 0 d

  put_other : (j : ℕ) → (j ≡ i → ⊥) → (j ≡ i + 1 → ⊥) → (j + 1 ≡ i → ⊥) → number_at (put t i x) j ≡ number_at t j
  put_other j d f g = rw (word-other j d f, word-other (j + 1) g (λ e. d (omega arith))) refl

-- Writing a row.
module _ (t : List ℕ) (k a b : ℕ) (room : WORDS ≤ length t) (h : k < 513) where
  pub length-row : length (put_row t k a b) ≡ length t
  unfolding put_row
  length-row = length-put (put t (4 * k) a) (4 * k + 2) b ∙ length-put t (4 * k) a

  row_same : (number_at (put_row t k a b) (4 * k) ≡ a) × (number_at (put_row t k a b) (4 * k + 2) ≡ b)
  unfolding put_row
  row_same =
      let t1 = put t (4 * k) a in
      let l1 : length t1 ≡ length t = length-put t (4 * k) a in (
        put_other t1 (4 * k + 2) b (4 * k) (λ e. omega arith) (λ e. omega arith) (λ e. omega arith) ∙ put_same t (4 * k) a (omega arith),
        put_same t1 (4 * k + 2) b (rw l1 (omega arith)),
      )

  row_before : (j : ℕ) → j + 1 < 4 * k → number_at (put_row t k a b) j ≡ number_at t j
  unfolding put_row
  row_before j l =
      put_other (put t (4 * k) a) (4 * k + 2) b j (λ e. omega arith) (λ e. omega arith) (λ e. omega arith)
      ∙ put_other t (4 * k) a j (λ e. omega arith) (λ e. omega arith) (λ e. omega arith)

  module _ (pool : List ℕ) (base1 base2 : ℕ) where
    -- The rows up to k are right, where those before it are, and it is.
    pub rows_next :
        ((m : ℕ) → m < k → Row pool base1 base2 t m) → a ≡ sum_from base1 0 (take (64 * k) pool) → b ≡ sum_from base2 0 (take (64 * k) pool)
        → (m : ℕ) → m ≤ k → Row pool base1 base2 (put_row t k a b) m
    rows_next rows ea eb m l =
        by_cases (eqb m k)
        (λ q. let e = eqb-true m k q in rw e record { sum1 = row_same.0 ∙ ea; sum2 = row_same.1 ∙ eb })
        (λ q.
        let n = eqb-false m k q in
        let old = rows m (omega arith) in
        record { sum1 = row_before (4 * m) (omega arith) ∙ old.sum1; sum2 = row_before (4 * m + 2) (omega arith) ∙ old.sum2 })

-- Nothing is summed up yet.
pub sum-none : (base : ℕ) (pool : List ℕ) → 0 ≡ sum_from base 0 (take (64 * 0) pool)
unfolding sum_from
sum-none base pool = refl

-- One block more.
pub sum-block :
    (base : ℕ) (pool : List ℕ) (k from r : ℕ) → from ≡ sum_from base 0 (take (64 * k) pool) → r ≡ sum_from base from (between pool (64 * k) (64 * k + 64))
    → r ≡ sum_from base 0 (take (64 * (k + 1)) pool)
sum-block base pool k from r f e =
    let n : 64 * k + 64 ≡ 64 * (k + 1) = omega arith in
    e ∙ ap (λ (h : ℕ). sum_from base h (between pool (64 * k) (64 * k + 64))) f ∙ sum-taken base pool 0 (64 * k) (64 * k + 64) (omega arith)
    ∙ ap (λ (i : ℕ). sum_from base 0 (take i pool)) n

-- The blocks that a pool begins with.
block-at : (n k : ℕ) (l : List ℕ) (i : ℕ) → i < k → get_or (first_chunks n k l) i [] ≡ take n (drop (n * i) l)
block-at n zero l i h = absurd (omega arith)
block-at n (suc k) l zero h = let none : n * 0 ≡ 0 = omega arith in rw none refl
block-at n (suc k) l (suc i) h =
    let more : n * suc i ≡ n + n * i = omega arith in
    rw (more, ← drop-drop (n * i) n l) (block-at n k (drop n l) i (omega arith))

pub block-is :
    (l : List ℕ) {blocks : List (List ℕ)} (i : ℕ) → blocks ≡ first_chunks 64 (length l / 64) l → i < length l / 64
    → get_or blocks i [] ≡ between l (64 * i) (64 * i + 64)
block-is l i e h =
    let size : 64 * i + 64 - 64 * i ≡ 64 = omega arith in
    rw (e, size) (block-at 64 (length l / 64) l i h)

-- Two numbers make a row.
pub row_made : (t t1 t2 : List ℕ) (k a b : ℕ) → t1 ≡ put t (4 * k) a → t2 ≡ put t1 (4 * k + 2) b → t2 ≡ put_row t k a b
unfolding put_row
row_made t t1 t2 k a b e f = rw (f, e) refl

pub number-made : (t : List ℕ) (i x : ℕ) → set (set t i (x % 65536)) (i + 1) (x / 65536) ≡ put t i x
unfolding put
number-made t i x = refl
