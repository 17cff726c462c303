-- How far the bytes of a name reach, and what that says of a part.
-- Assumes nothing.
use Prim.Native.Nat.{ℕ, suc, ◌+◌, ◌*◌, ◌-◌, ◌≤◌, ◌<◌}
use mathlib.Core.Path.{◌≡◌, refl, sym, ap, ◌∙◌}
use mathlib.Core.Bool.{Bool, true, false, ◌&&◌, and_assoc}
use mathlib.Core.List.{List, [], ◌∷◌, ◌++◌}
use native.Mathlib.Omega.{arith}
use borrow.Author.Tests.{eqb-true, eqb-false, leb-true, leb-false}
use lib.Dec.{eqb, leb}
use lib.ListN.{length, get_or, set, take, drop, drop_of_length-le}
use lib.Seq.{get_or-set_same, get_or-set_other}
use Rattle.rules.specs.Lists.{all_of}
use Rattle.rules.specs.Refusals.{is_first_byte, is_name_byte, good_name}
use Rattle.rules.proofs.Lists.{by_cases, both_true, true-not-false}
use Rattle.marks.specs.Marks.{between}
use Rattle.marks.proofs.Cutting.{take-sum, between_split, between_first}
use Rattle.ends.specs.Ends.{BLOCK, WORDS, Reach}

-- Two lists one behind the other.
all-joined : (test : ℕ → Bool) (xs ys : List ℕ) → all_of test (xs ++ ys) ≡ (all_of test xs && all_of test ys)
all-joined test [] ys = refl
all-joined test (x ∷ xs) ys = ap (λ t. test x && t) (all-joined test xs ys) ∙ sym (and_assoc (test x) (all_of test xs) (all_of test ys))

-- The front of bytes that all pass.
all-front : (test : ℕ → Bool) (n m : ℕ) (l : List ℕ) → n ≤ m → all_of test (take m l) ≡ true → all_of test (take n l) ≡ true
all-front test n m l h e =
    let k : m ≡ n + (m - n) = omega arith in
    (both_true (all_of test (take n l)) (all_of test (take (m - n) (drop n l)))
    (sym (ap (λ (j : ℕ). all_of test (take j l)) k ∙ ap (all_of test) (take-sum n (m - n) l) ∙ all-joined test (take n l) (take (m - n) (drop n l))) ∙ e)).0

module _ (colons : Bool) (pool : List ℕ) where
  abbrev named : ℕ → ℕ → Bool
  named i e = all_of (is_name_byte colons) (between pool i e)

  named-split : (i m e : ℕ) → i ≤ m → m ≤ e → named i e ≡ (named i m && named m e)
  named-split i m e h l = ap (all_of (is_name_byte colons)) (between_split pool i m e h l) ∙ all-joined (is_name_byte colons) (between pool i m) (between pool m e)

  named-front : (i m e : ℕ) → m ≤ e → named i e ≡ true → named i m ≡ true
  named-front i m e h = all-front (is_name_byte colons) (m - i) (e - i) (drop i pool) (omega arith)

  none_named : (i e : ℕ) → e ≤ i → named i e ≡ true
  none_named i e h = let n : e - i ≡ 0 = omega arith in ap (λ (j : ℕ). all_of (is_name_byte colons) (take j (drop i pool))) n

  -- A block of name bytes reaches as far as the next one does,
  pub reach-on : (start end : ℕ) {all : Bool} → all ≡ all_of (is_name_byte colons) (take BLOCK (drop start pool)) → all ≡ true → Reach colons pool (start + BLOCK) end → Reach colons pool start end
  reach-on start end e t r =
      let front : named start (start + BLOCK) ≡ true = (let n : start + BLOCK - start ≡ BLOCK = omega arith in ap (λ (j : ℕ). all_of (is_name_byte colons) (take j (drop start pool))) n ∙ sym e ∙ t) in
      record {
        within = r.within;
        named =
            by_cases (leb end (start + BLOCK))
            (λ q. named-front start end (start + BLOCK) (leb-true end (start + BLOCK) q) front)
            (λ q. let g = leb-false end (start + BLOCK) q in named-split start (start + BLOCK) end (omega arith) (omega arith) ∙ rw (front, r.named) refl);
      }

  -- any other nowhere.
  pub reach-none : (start : ℕ) {all : Bool} → all ≡ all_of (is_name_byte colons) (take BLOCK (drop start pool)) → all ≡ false → Reach colons pool start start
  reach-none start e t =
      record {
        within =
            by_cases (leb start (length pool))
            (λ q. leb-true start (length pool) q)
            (λ q. let g = leb-false start (length pool) q in absurd (true-not-false (rw (drop_of_length-le pool {i = start} (omega arith)) refl) (sym e ∙ t)));
        named = none_named start start (omega arith);
      }

  pub reach-end : (i : ℕ) → length pool ≤ i → Reach colons pool i (length pool)
  reach-end i h = record { within = omega arith; named = none_named i (length pool) h }

  -- A part that goes on where something is known.
  module _ (start stop reach end : ℕ) (r : Reach colons pool stop reach) (h : start < stop) (l : stop < end) (k : end ≤ length pool) where
    good-first-bytes : (b : ℕ) (bs ys : List ℕ) → good_name colons ((b ∷ bs) ++ ys) ≡ (good_name colons (b ∷ bs) && all_of (is_name_byte colons) ys)
    unfolding good_name
    good-first-bytes b bs ys =
        ap (λ t. is_first_byte colons b && t) (all-joined (is_name_byte colons) bs ys) ∙ sym (and_assoc (is_first_byte colons b) (all_of (is_name_byte colons) bs) (all_of (is_name_byte colons) ys))

    good-split : good_name colons (between pool start end) ≡ (good_name colons (between pool start stop) && named stop end)
    good-split =
        let first = between_first pool start stop h (omega arith) in
        ap (good_name colons) (between_split pool start stop end (omega arith) (omega arith))
        ∙ rw first (good-first-bytes (get_or pool start 0) (between pool (suc start) stop) (between pool stop end))

    pub front-fails : good_name colons (between pool start stop) ≡ false → false ≡ good_name colons (between pool start end)
    front-fails e = sym (good-split ∙ rw e refl)

    module _ (e : good_name colons (between pool start stop) ≡ true) where
      rest : named stop end ≡ good_name colons (between pool start end)
      rest = sym (good-split ∙ rw e refl)

      pub reaches : end ≤ reach → true ≡ good_name colons (between pool start end)
      reaches g = sym (named-front stop end reach g r.named) ∙ rest

      pub all_rest : {all : Bool} → all ≡ named stop end → all ≡ good_name colons (between pool start end)
      all_rest f = f ∙ rest

      pub reach-rest : stop < reach → reach < end → {all : Bool} → all ≡ named reach end → all ≡ good_name colons (between pool start end)
      reach-rest g m f = f ∙ sym (named-split stop reach end (omega arith) (omega arith) ∙ rw r.named refl) ∙ rest

-- Ends are written from the last to the first.
abbrev pub EndedFrom : Bool → List ℕ → List ℕ → ℕ → Type 0
EndedFrom colons pool ends n = (k : ℕ) → n ≤ k → k < WORDS → Reach colons pool (BLOCK * k) (get_or ends k 0)

pub ended-next :
    (colons : Bool) (pool ends : List ℕ) (n end : ℕ) → n < length ends → EndedFrom colons pool ends (n + 1) → Reach colons pool (BLOCK * n) end
    → EndedFrom colons pool (set ends n end) n
ended-next colons pool ends n end h later r k l t =
    by_cases (eqb k n)
    (λ q. rw (eqb-true k n q, get_or-set_same ends n end 0 h) r)
    (λ q. let d = eqb-false k n q in rw (get_or-set_other ends n k end 0 (λ x. d x)) (later k (omega arith) t))
