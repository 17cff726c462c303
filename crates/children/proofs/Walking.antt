-- A walk along the links meets those of a row, in row order, and no others.
-- Assumes nothing.
use Prim.Native.Nat.{ℕ, zero, suc, ◌+◌, ◌-◌, ◌≤◌, ◌<◌}
use mathlib.Core.Path.{◌≡◌, refl, ap, ◌∙◌}
use mathlib.Core.Bool.{Bool, true, cond}
use mathlib.Core.List.{List, [], ◌∷◌}
use native.Mathlib.Omega.{arith}
use borrow.Author.Tests.{eqb-true, eqb-false, ne_eqb}
use lib.Dec.{eqb}
use Rattle.rules.specs.Lists.{filtered, numbers_from}
use Rattle.rules.proofs.Lists.{by_cases}
use Rattle.notes.specs.Notes.{note_at}
use Rattle.children.specs.Children.{seek, Listed, rows_from}

-- What is sought among the positions up to n.
module _ (test : ℕ → Bool) (n : ℕ) where
  abbrev from : ℕ → List ℕ
  from at = cond (eqb at 0) [] (filtered test (numbers_from at (suc n - at)))

  sought : (count i : ℕ) → 0 < i → i + count ≡ suc n → filtered test (numbers_from i count) ≡ from (seek test count i)
  unfolding seek
  sought zero i h s = refl
  sought (suc count) i h s =
      by_cases (test i)
      (λ t. let all : suc n - i ≡ suc count = omega arith in rw (t, ne_eqb i 0 (λ e. omega arith), all, t))
      (λ t. rw t (sought count (suc i) (omega arith) (omega arith)))

  sought-passes : (count i : ℕ) → 0 < seek test count i → i + count ≡ suc n → (i ≤ seek test count i) × (seek test count i ≤ n) × (test (seek test count i) ≡ true)
  unfolding seek
  sought-passes zero i h s = absurd (omega arith)
  sought-passes (suc count) i h s =
      by_cases (test i)
      (λ t. rw t (omega arith, omega arith, t))
      (λ t. let further = sought-passes count (suc i) (rw t at h) (omega arith) in rw t (omega arith, further.1, further.2))

module _ (test : ℕ → ℕ → Bool) (first : ℕ) (notes : List ℕ) (n : ℕ) (listed : Listed test first notes n 0) (e : ℕ) (row : e < n) where
  -- The walk has come to one of the row, or to the end.
  pub record Reached (at : ℕ) : Type 0 where
    pub within : at ≤ n
    pub own : 0 < at → test e at ≡ true

  reached : (count i at : ℕ) → at ≡ seek (test e) count i → i + count ≡ suc n → Reached at
  reached count i at s all =
      record {
        within =
            by_cases (eqb at 0)
            (λ t. let none = eqb-true at 0 t in omega arith)
            (λ t. let some = eqb-false at 0 t in let p = sought-passes (test e) n count i (rw (← s) (omega arith)) all in rw s p.1);
        own = λ h. rw s (sought-passes (test e) n count i (rw (← s) h) all).2;
      }

  module _ (at : ℕ) (head : at ≡ note_at notes e first) where
    found : at ≡ seek (test e) n 1
    found = let s : n - 0 ≡ n = omega arith in head ∙ (rw s at (listed.firsts e row))

    pub rows-first : filtered (test e) (numbers_from 1 n) ≡ rows_from test n e at
    unfolding rows_from
    rows-first = rw found (sought (test e) n n 1 (omega arith) (omega arith))

    pub reach-first : Reached at
    reach-first = reached n 1 at found (omega arith)

  module _ (at : ℕ) (h : 0 < at) (here : Reached at) (next : ℕ) (link : next ≡ note_at notes (at - 1) (first + 1)) where
    found-next : next ≡ seek (test e) (n - at) (suc at)
    found-next = link ∙ listed.nexts e at row h here.within (here.own h)

    pub rows_next : rows_from test n e at ≡ at ∷ rows_from test n e next
    unfolding rows_from
    rows_next =
        let within : at ≤ n = here.within in
        let s : suc n - at ≡ suc (n - at) = omega arith in
        rw (ne_eqb at 0 (λ x. omega arith), s, here.own h, found-next) (ap (λ l. at ∷ l) (sought (test e) n (n - at) (suc at) (omega arith) (omega arith)))

    pub reach-next : Reached next
    reach-next = let within : at ≤ n = here.within in reached (n - at) (suc at) next found-next (omega arith)

    pub next-later : 0 < next → at < next
    next-later i =
        let within : at ≤ n = here.within in
        let p = sought-passes (test e) n (n - at) (suc at) (rw (← found-next) i) (omega arith) in
        rw found-next p.0

pub rows_end : (test : ℕ → ℕ → Bool) (n e : ℕ) → rows_from test n e 0 ≡ []
unfolding rows_from
rows_end test n e = refl
