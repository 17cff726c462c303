-- The entries of a packed pool: every name that is used is one of them, and stands in the pool where it starts.
-- Assumes nothing.
use Prim.Native.Nat.{ℕ, ◌+◌, ◌≤◌}
use mathlib.Core.Path.{◌≡◌, refl, ◌∙◌, ap}
use mathlib.Core.Bool.{Bool, true, false, ◌||◌}
use mathlib.Core.List.{List, [], ◌∷◌, ◌++◌}
use native.Mathlib.Omega.{arith}
use lib.ListN.{length, take, length-append}
use lib.Seq.{take-append_seam, drop-append-add}
use Rattle.rules.specs.Lists.{any_of, all_of, gathered, is_empty, same_bytes}
use Rattle.rules.specs.Table.{part, Node}
use Rattle.rules.specs.Demands.{field_bytes}
use Rattle.rules.proofs.Lists.{by_cases, both_true, true-both, either_left, either-right, true-not-false, same_bytes-equal, same_bytes-refl, any_of-append}
use Rattle.packing.specs.Packing.{entered, entered_all, entries, joined, start_of}

-- The bytes are empty or one of the names.
abbrev pub is_held : List (List ℕ) → List ℕ → Bool
is_held names bytes = is_empty bytes || any_of (same_bytes bytes) names

held_more : (names more : List (List ℕ)) (bytes : List ℕ) → is_held names bytes ≡ true → is_held (names ++ more) bytes ≡ true
held_more names more bytes h =
    by_cases (is_empty bytes)
    (λ q. rw q refl)
    (λ q. rw (q, any_of-append (same_bytes bytes) names more) (either_left (any_of (same_bytes bytes) more) (rw q at h)))

-- A name that was there stays, and the one that is entered is there.
pub held-entered : (names : List (List ℕ)) (new bytes : List ℕ) → is_held names bytes ≡ true → is_held (entered names new) bytes ≡ true
unfolding entered
held-entered names new bytes h =
    by_cases (is_held names new)
    (λ q. rw q h)
    (λ q. rw q (held_more names (new ∷ []) bytes h))

pub entered-held : (names : List (List ℕ)) (new : List ℕ) → is_held (entered names new) new ≡ true
unfolding entered
entered-held names new =
    by_cases (is_held names new)
    (λ q. rw (q, q) refl)
    (λ q.
    rw (q, any_of-append (same_bytes new) names (new ∷ []), same_bytes-refl new)
    (either-right (is_empty new) (either-right (any_of (same_bytes new) names) refl)))

pub held_all : (xs : List (List ℕ)) (names : List (List ℕ)) (bytes : List ℕ) → is_held names bytes ≡ true → is_held (entered_all names xs) bytes ≡ true
unfolding entered_all
held_all [] names bytes h = h
held_all (x ∷ xs) names bytes h = held_all xs (entered names x) bytes (held-entered names x bytes h)

pub all_held : (xs : List (List ℕ)) (names : List (List ℕ)) → all_of (is_held (entered_all names xs)) xs ≡ true
unfolding entered_all
all_held [] names = refl
all_held (x ∷ xs) names = true-both (held_all xs (entered names x) x (entered-held names x)) (all_held xs (entered names x))

-- What holds of all that is gathered holds of what each gives.
module _ {A B : Type 0} (test : A → Bool) (f : B → List A) where
  all_split : (ys zs : List A) → all_of test (ys ++ zs) ≡ true → (all_of test ys ≡ true) × (all_of test zs ≡ true)
  all_split [] zs e = (refl, e)
  all_split (y ∷ ys) zs e =
      let h = both_true (test y) (all_of test (ys ++ zs)) e in
      let r = all_split ys zs h.1 in
      (true-both h.0 r.0, r.1)

  all_apart : (xs : List B) → all_of test (gathered f xs) ≡ true → all_of (λ (x : B). all_of test (f x)) xs ≡ true
  all_apart [] e = refl
  all_apart (x ∷ xs) e = let h = all_split (f x) (gathered f xs) e in true-both h.0 (all_apart xs h.1)

-- Every field of every row is held.
pub rows-held : (ns : List Node) → all_of (λ (n : Node). all_of (is_held (entries ns)) (field_bytes n)) ns ≡ true
unfolding entries
rows-held ns = all_apart (is_held (entries ns)) field_bytes ns (all_held (gathered field_bytes ns) [])

-- An entry stands in the pool where it starts.
pub record Stands (names : List (List ℕ)) (bytes : List ℕ) : Type 0 where
  pub inside : start_of names bytes + length bytes ≤ length (joined names)
  pub there : part (joined names) (start_of names bytes) (length bytes) ≡ bytes

module _ (name : List ℕ) (names : List (List ℕ)) (bytes : List ℕ) where
  starts-here : same_bytes bytes name ≡ true → start_of (name ∷ names) bytes ≡ 0
  unfolding start_of
  starts-here q = rw q refl

  starts-later : same_bytes bytes name ≡ false → start_of (name ∷ names) bytes ≡ length name + start_of names bytes
  unfolding start_of
  starts-later q = rw q refl

  joined-more : joined (name ∷ names) ≡ name ++ joined names
  unfolding joined
  joined-more = refl

  stands_here : same_bytes bytes name ≡ true → Stands (name ∷ names) bytes
  stands_here q =
      let same = same_bytes-equal bytes name q in
      record {
        inside = rw (starts-here q, joined-more, same) (simp length-append (omega arith));
        there = rw (starts-here q, joined-more, same) (take-append_seam name (joined names));
      }

  stands-later : same_bytes bytes name ≡ false → Stands names bytes → Stands (name ∷ names) bytes
  stands-later q h =
      record {
        inside = rw (starts-later q, joined-more) (simp length-append (omega (arith, h.inside)));
        there = rw (starts-later q, joined-more) (ap (take (length bytes)) (drop-append-add name (joined names) (start_of names bytes)) ∙ h.there);
      }

pub stands : (names : List (List ℕ)) (bytes : List ℕ) → any_of (same_bytes bytes) names ≡ true → Stands names bytes
stands [] bytes e = absurd (true-not-false e refl)
stands (name ∷ names) bytes e =
    by_cases (same_bytes bytes name)
    (λ q. stands_here name names bytes q)
    (λ q. stands-later name names bytes q (stands names bytes (rw q at e)))
