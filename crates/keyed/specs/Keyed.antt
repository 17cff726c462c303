-- Polynomials over a prime: what the code computes. Of a base nothing is asked.
use Rattle.std.specs.Prelude.{ℕ, zero, suc, ◌+◌, ◌*◌, ◌-◌, ◌%◌, List, [], ◌∷◌, take, drop}

abbrev pub PRIME : ℕ
PRIME = 4294967087

-- one step: times the base, and a term
unfoldable pub pushed : ℕ → ℕ → ℕ → ℕ
pushed base h c = (h * base + c) % PRIME

-- the bytes pushed one after the other, each as one more than it is
unfoldable pub sum_from : ℕ → ℕ → List ℕ → ℕ
sum_from base h [] = h
sum_from base h (b ∷ bs) = sum_from base (pushed base h (b + 1)) bs

-- h times the base, n times
unfoldable pub raised_from : ℕ → ℕ → ℕ → ℕ
raised_from base h zero = h
raised_from base h (suc n) = raised_from base (pushed base h 0) n

-- The largest pool.
abbrev pub MOST : ℕ
MOST = 32768

-- the bytes from i up to e
abbrev pub between : List ℕ → ℕ → ℕ → List ℕ
between pool i e = take (e - i) (drop i pool)
