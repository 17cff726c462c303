-- The groups of n bytes that two byte strings begin with are compared from the last to the first.
-- Assumes nothing.
use Rattle.std.proofs.Common.{◌≡◌, ℕ, zero, suc, ◌+◌, ◌*◌, List, [], ◌∷◌, length, drop, Bool, false, true, not, nat_eq, ◌&&◌, ◌/◌, ◌%◌, take, ap, sym, ◌∙◌, refl, arith}
use Rattle.std.specs.List.{push}
use Rattle.std.specs.Cmp.Lexicographic.{pointwise, same_text, other_text}
use Rattle.std.specs.Simd.{first_chunks}
use Rattle.std.proofs.Math.Seq.{take-take, drop-drop}
use Rattle.std.proofs.lemmas.List.{length-append, length-drop}
use Rattle.rules.specs.Lists.{same_bytes}
use Rattle.rules.specs.Table.{part}
use Rattle.rules.proofs.Lists.{not-true, not-false, true-not-false, equal-same_bytes, same_bytes-equal}
use Rattle.short_strings.proofs.Bytes.{EqualFrom, equal-end, equal-whole, group-before}
use Rattle.short_strings.proofs.Order.{end-then-front}

length-first_chunks : (n k : ℕ) (l : List ℕ) → length (first_chunks n k l) ≡ k
length-first_chunks n zero l = refl
length-first_chunks n (suc k) l = ap suc (length-first_chunks n k (drop n l))

last-group :
    (n : ℕ) (l : List ℕ) (groups : List (List ℕ)) (group : List ℕ) → push groups group ≡ first_chunks n (length (push groups group)) l
    → (groups ≡ first_chunks n (length groups) l) × (group ≡ part l (n * length groups) n)
last-group n l [] group e =
    let zero-groups : n * 0 ≡ 0 = omega arith in
    (refl, rw zero-groups cc)
last-group n l (first ∷ groups) group e =
    let rest = last-group n (drop n l) groups group cc in
    let more : n * suc (length groups) ≡ n + n * length groups = omega arith in
    (cc, rw (more, ← drop-drop (n * length groups) n l) rest.1)

-- These groups are left of two byte strings, which are the same behind them.
pub record Left (n : ℕ) (a b : List ℕ) (xs ys : List (List ℕ)) : Type 0 where
  pub first : xs ≡ first_chunks n (length xs) a
  pub second : ys ≡ first_chunks n (length ys) b
  pub level : length xs ≡ length ys
  pub behind : EqualFrom a b (n * length xs)

module _ (n : ℕ) (a b : List ℕ) (xs ys : List (List ℕ)) where
  pub all-left : (k : ℕ) → xs ≡ first_chunks n k a → ys ≡ first_chunks n k b → EqualFrom a b (k * n) → Left n a b xs ys
  all-left k e f behind =
      let one : length xs ≡ k = rw e (length-first_chunks n k a) in
      let two : length ys ≡ k = rw f (length-first_chunks n k b) in
      let product : n * k ≡ k * n = omega arith in
      record {
        first = rw one e;
        second = rw two f;
        level = one ∙ sym two;
        behind = rw (one, product) behind;
      }

  pub whole-left : Left n a b xs ys → length xs ≡ 0 → true ≡ same_bytes a b
  whole-left left h =
      let none : n * length xs ≡ 0 = rw h (omega arith) in
      equal-whole a b (n * length xs) (omega arith) left.behind

  pub none-left : Left n a b xs ys → length xs ≡ 0 → a ≡ b
  none-left left h = same_bytes-equal a b (sym (whole-left left h))

  module _ (x y : List ℕ) (left : Left n a b (push xs x) (push ys y)) where
    level_of : length xs ≡ length ys
    level_of =
        let level = left.level in
        omega (arith, length-append xs (x ∷ []), length-append ys (y ∷ []))

    one-more : n * length xs + n ≡ n * length (push xs x)
    one-more =
        let more : length (push xs x) ≡ suc (length xs) = omega (arith, length-append xs (x ∷ [])) in
        rw more (omega arith)

    pub next-left : x ≡ y → Left n a b xs ys
    next-left e =
        let one = last-group n a xs x left.first in
        let two = last-group n b ys y left.second in
        record {
          first = one.0;
          second = two.0;
          level = level_of;
          behind = group-before a b n (n * length xs) one-more left.behind (equal-same_bytes (sym one.1 ∙ e ∙ two.1 ∙ rw level_of refl));
        }

    pub other-left : (x ≡ y → ⊥) → a ≡ b → ⊥
    other-left h e =
        let one = last-group n a xs x left.first in
        let two = last-group n b ys y left.second in
        h (one.1 ∙ ap (λ l. part l (n * length xs) n) e ∙ rw level_of (sym two.1))

    -- The same where all n bytes of both groups are compared.
    pub next-compared : same_bytes (part x 0 n) (part y 0 n) ≡ true → Left n a b xs ys
    next-compared t =
        let one = (last-group n a xs x left.first).1 in
        let two = (last-group n b ys y left.second).1 in
        let first : part x 0 n ≡ x = ap (λ l. part l 0 n) one ∙ take-take n n (drop (n * length xs) a) (omega arith) ∙ sym one in
        let second : part y 0 n ≡ y = ap (λ l. part l 0 n) two ∙ take-take n n (drop (n * length ys) b) (omega arith) ∙ sym two in
        next-left (sym first ∙ same_bytes-equal (part x 0 n) (part y 0 n) t ∙ second)

    pub other-compared : same_bytes (part x 0 n) (part y 0 n) ≡ false → a ≡ b → ⊥
    other-compared f = other-left (λ e. true-not-false (equal-same_bytes (ap (λ l. part l 0 n) e)) f)

-- Two strings of one length whose fronts end where the groups begin.
pub groups-left :
    (n : ℕ) (a b : List ℕ) (xs ys : List (List ℕ)) → length a ≡ length b → length a ≡ length a % n + length a / n * n
    → xs ≡ first_chunks n (length a / n) (drop (length a % n) a) → ys ≡ first_chunks n (length b / n) (drop (length b % n) b)
    → Left n (drop (length a % n) a) (drop (length a % n) b) xs ys
groups-left n a b xs ys level cut e f =
    let size : length (drop (length a % n) a) ≡ length a / n * n = omega (arith, length-drop (length a % n) a) in
    let other : length (drop (length a % n) b) ≡ length a / n * n = omega (arith, length-drop (length a % n) b) in
    let f2 : ys ≡ first_chunks n (length a / n) (drop (length a % n) b) = rw level f in
    all-left n (drop (length a % n) a) (drop (length a % n) b) xs ys (length a / n) e f2
    (rw (← size) (equal-end (drop (length a % n) a) (drop (length a % n) b) (size ∙ sym other)))

pub fronts-decide : (a b : List ℕ) (i : ℕ) → drop i a ≡ drop i b → same_bytes (take i a) (take i b) ≡ same_bytes a b
fronts-decide a b i e = sym (ap (λ t. t && same_bytes (take i a) (take i b)) (equal-same_bytes e)) ∙ end-then-front a b i

-- What `!=` told of two strings.
pub told-same : (xs ys : List ℕ) {told : Bool} → told ≡ not (pointwise nat_eq xs ys) → told ≡ false → xs ≡ ys
told-same xs ys e is = same_text xs ys (sym (not-false (pointwise nat_eq xs ys) (sym e ∙ is)))

pub told-other : (xs ys : List ℕ) {told : Bool} → told ≡ not (pointwise nat_eq xs ys) → told ≡ true → xs ≡ ys → ⊥
told-other xs ys e is = other_text xs ys (sym (not-true (pointwise nat_eq xs ys) (sym e ∙ is)))
