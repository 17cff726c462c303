-- The last bytes of strings, and fronts of strings of one length.
-- Assumes nothing.
use Rattle.std.proofs.Common.{◌≡◌, ℕ, ◌+◌, ◌-◌, List, length, take, drop, refl, Bool, true, false, not, Bor, Option, Some, None, nat_eq, ap, sym, ◌∙◌, arith}
use Rattle.std.proofs.Math.Seq.{take_all, take-take}
use Rattle.std.proofs.lemmas.List.{length-take, drop-take}
use Rattle.std.specs.Option.{option_eq, option_copied}
use Rattle.rules.specs.Lists.{same_bytes}
use Rattle.rules.specs.Table.{part}
use Rattle.rules.proofs.Lists.{true-not-false}
use Rattle.short_strings.proofs.Bytes.{EqualFrom, equal-end, differ-group, group-before, front-decides}
use borrow.Author.Tests.{eq-eqb}

-- What `!=` told of two references to bytes.
pub told-other : (v w : Option (Bor ℕ)) {told : Bool} → told ≡ not (option_eq (λ x y. nat_eq x.now y.now) v w) → told ≡ true → option_copied v ≡ option_copied w → ⊥
told-other None None e is same = true-not-false is e
told-other None (Some y) e is same = cc
told-other (Some x) None e is same = cc
told-other (Some x) (Some y) e is same =
    let byte : x.now ≡ y.now = cc in
    true-not-false is (e ∙ ap not (eq-eqb x.now y.now byte))

pub take_level : (n : ℕ) (a b : List ℕ) → length a ≡ length b → length (take n a) ≡ length (take n b)
take_level n a b level = rw (length-take n a, length-take n b, level) refl

-- Fronts of one length are left of two strings, which are the same behind them.
pub record Fronts (a b left_a left_b : List ℕ) : Type 0 where
  pub first : left_a ≡ take (length left_a) a
  pub second : left_b ≡ take (length left_a) b
  pub level : length left_a ≡ length left_b
  pub behind : EqualFrom a b (length left_a)

pub nothing-behind : (a b : List ℕ) → length a ≡ length b → Fronts a b a b
nothing-behind a b level =
    record {
      first = sym (take_all (length a) a (omega arith));
      second = sym (take_all (length a) b (omega arith));
      level = level;
      behind = equal-end a b level;
    }

pub left-decides : {a b left_a left_b : List ℕ} → Fronts a b left_a left_b → same_bytes left_a left_b ≡ same_bytes a b
left-decides {a} {b} {left_a} {left_b} left = rw (left.first, left.second) (front-decides a b (length left_a) left.behind)

-- The last n bytes of what is left are compared.
module _
    (n : ℕ) {a b left_a left_b front_a front_b group_a group_b : List ℕ} (left : Fronts a b left_a left_b)
    (cut : (front_a ≡ take (length left_a - n) left_a) × (group_a ≡ drop (length left_a - n) left_a) × (length front_a + n ≡ length left_a))
    (front : front_b ≡ take (length front_a) left_b) (group : group_b ≡ drop (length front_a) left_b) where
  here : length left_a - n ≡ length front_a
  here =
      let whole = cut.2 in
      omega arith

  -- The groups are parts of the strings.
  part-of : (l whole : List ℕ) → l ≡ take (length left_a) whole → drop (length front_a) l ≡ part whole (length front_a) n
  part-of l whole e = rw (e, ← cut.2) (drop-take (length front_a) n whole)

  front-of : (l whole : List ℕ) → l ≡ take (length left_a) whole → take (length front_a) l ≡ take (length front_a) whole
  front-of l whole e =
      let sum = cut.2 in
      rw e (take-take (length front_a) (length left_a) whole (omega arith))

  one : group_a ≡ part a (length front_a) n
  one = (rw here at cut.1) ∙ part-of left_a a left.first

  other : group_b ≡ part b (length front_a) n
  other = group ∙ part-of left_b b left.second

  pub front-left : same_bytes group_a group_b ≡ true → Fronts a b front_a front_b
  front-left same =
      record {
        first = (rw here at cut.0) ∙ front-of left_a a left.first;
        second = front ∙ front-of left_b b left.second;
        level = rw (rw here at cut.0, front) (take_level (length front_a) left_a left_b left.level);
        behind = group-before a b n (length front_a) cut.2 left.behind (rw (← one, ← other) same);
      }

  pub group-differs : same_bytes group_a group_b ≡ false → false ≡ same_bytes a b
  group-differs differs = differ-group a b n (length front_a) (rw (← one, ← other) differs)
