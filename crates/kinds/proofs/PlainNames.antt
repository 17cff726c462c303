-- Good names of ASCII: they are good, and well-formed. And how the code finds them, part after part.
-- Assumes nothing.
use Prim.Native.Nat.{ℕ, zero, suc, ◌+◌, ◌*◌, ◌/◌, ◌≤◌, ◌<◌}
use Rattle.std.specs.Simd.{first_chunks}
use mathlib.Core.Path.{◌≡◌, refl, sym, ap, ◌∙◌}
use mathlib.Core.Bool.{Bool, true, false, ◌&&◌, ◌||◌, not, and-false}
use mathlib.Core.List.{List, [], ◌∷◌, ◌++◌}
use native.Mathlib.Omega.{arith}
use borrow.Author.Tests.{eqb-true, leb-true, lt-ltb, ne_eqb, eq-eqb}
use lib.Dec.{eqb, leb}
use lib.ListN.{length, get_or, take, drop, take-append-drop}
use lib.Seq.{drop-drop}
use Rattle.rules.specs.Lists.{all_of, is_empty, same_bytes}
use Rattle.rules.specs.Table.{xml_prefix, xmlns_prefix}
use Rattle.rules.specs.Utf8.{well_formed, is_ascii}
use Rattle.rules.specs.Refusals.{is_between, is_first_byte, is_name_byte, good_name}
use Rattle.rules.proofs.Lists.{by_cases, both_true, true-both, not-true, length-empty, all_of-weaken}
use Rattle.rules.proofs.Utf8.{ascii-well-formed}
use Rattle.kinds.specs.Kinds.{XML, XMLNS, GOOD, kind_of}
use Rattle.kinds.specs.Plain.{is_plain_first, is_plain_byte, is_plain}

-- One of two tests is met.
some : {P : Type 0} (a b : Bool) → (a || b) ≡ true → (a ≡ true → P) → (b ≡ true → P) → P
some a b e p q = by_cases a p (λ f. q (rw f at e))

-- A byte of such a name.
first_good : (b : ℕ) → is_plain_first b ≡ true → is_first_byte false b ≡ true
first_good b e =
    some (is_between 97 122 b || is_between 65 90 b) (eqb b 95) e
    (λ f. some (is_between 97 122 b) (is_between 65 90 b) f (λ g. by_cases (is_between 65 90 b) (λ h. rw h) (λ h. rw (h, g))) (λ g. rw g))
    (λ f. rw (eqb-true b 95 f))

byte-good : (b : ℕ) → is_plain_byte b ≡ true → is_name_byte false b ≡ true
byte-good b e =
    by_cases (is_first_byte false b)
    (λ f. rw f)
    (λ f.
    some (is_plain_first b || is_between 48 57 b || eqb b 45) (eqb b 46) e
    (λ g.
    some (is_plain_first b || is_between 48 57 b) (eqb b 45) g
    (λ h. some (is_plain_first b) (is_between 48 57 b) h (λ i. rw (first_good b i)) (λ i. rw (f, i)))
    (λ h. rw (eqb-true b 45 h)))
    (λ g. rw (eqb-true b 46 g)))

below : (low high b : ℕ) → is_between low high b ≡ true → b ≤ high
below low high b e = leb-true b high (both_true (leb low b) (leb b high) e).1

first_small : (b : ℕ) → is_plain_first b ≡ true → b ≤ 122
first_small b e =
    some (is_between 97 122 b || is_between 65 90 b) (eqb b 95) e
    (λ f. some (is_between 97 122 b) (is_between 65 90 b) f (λ g. below 97 122 b g) (λ g. let l = below 65 90 b g in omega arith))
    (λ f. let l = eqb-true b 95 f in omega arith)

byte_small : (b : ℕ) → is_plain_byte b ≡ true → b ≤ 122
byte_small b e =
    some (is_plain_first b || is_between 48 57 b || eqb b 45) (eqb b 46) e
    (λ g.
    some (is_plain_first b || is_between 48 57 b) (eqb b 45) g
    (λ h. some (is_plain_first b) (is_between 48 57 b) h (λ i. first_small b i) (λ i. let l = below 48 57 b i in omega arith))
    (λ h. let l = eqb-true b 45 h in omega arith))
    (λ g. let l = eqb-true b 46 g in omega arith)

byte-ascii : (b : ℕ) → is_plain_byte b ≡ true → is_ascii b ≡ true
byte-ascii b e = let l = byte_small b e in lt-ltb b 128 (omega arith)

good-plain : (name : List ℕ) → is_plain_first (get_or name 0 0) ≡ true → all_of is_plain_byte name ≡ true → good_name false name ≡ true
unfolding good_name
good-plain [] f a = refl
good-plain (b ∷ bs) f a = true-both (first_good b f) (all_of-weaken is_plain_byte (is_name_byte false) byte-good bs (both_true (is_plain_byte b) (all_of is_plain_byte bs) a).1)

pub record Plain (name : List ℕ) : Type 0 where
  pub full : is_empty name ≡ false
  pub good : good_name false name ≡ true
  pub formed : well_formed name ≡ true

pub plain : (name : List ℕ) → is_plain name ≡ true → Plain name
unfolding is_plain
plain name e =
    let a = both_true (not (is_empty name) && is_plain_first (get_or name 0 0)) (all_of is_plain_byte name) e in
    let b = both_true (not (is_empty name)) (is_plain_first (get_or name 0 0)) a.0 in
    record {
      full = not-true (is_empty name) b.0;
      good = good-plain name b.1 a.1;
      formed = ascii-well-formed name (all_of-weaken is_plain_byte is_ascii byte-ascii name a.1);
    }

-- What it is.
module _ (name : List ℕ) (p : is_plain name ≡ true) where
  pub plain-xml : same_bytes name xml_prefix ≡ true → XML ≡ kind_of name
  unfolding kind_of
  plain-xml e = let q = plain name p in rw (q.full, q.formed, e)

  module _ (x : same_bytes name xml_prefix ≡ false) where
    pub plain-xmlns : same_bytes name xmlns_prefix ≡ true → XMLNS ≡ kind_of name
    unfolding kind_of
    plain-xmlns e = let q = plain name p in rw (q.full, q.formed, x, e)

    pub plain-good : same_bytes name xmlns_prefix ≡ false → GOOD ≡ kind_of name
    unfolding kind_of
    plain-good e = let q = plain name p in rw (q.full, q.formed, x, e, q.good)

all_append : (test : ℕ → Bool) (xs ys : List ℕ) → all_of test (xs ++ ys) ≡ (all_of test xs && all_of test ys)
all_append test [] ys = refl
all_append test (x ∷ xs) ys = by_cases (test x) (λ e. rw e (all_append test xs ys)) (λ e. rw e)

-- The parts of a name, in order.
module _ (name : List ℕ) where
  pub plain-none : length name ≡ 0 → false ≡ is_plain name
  unfolding is_plain
  plain-none e = rw (length-empty name, eq-eqb (length name) 0 e)

  pub plain_other : {first : Bool} → first ≡ is_plain_first (get_or name 0 0) → first ≡ false → false ≡ is_plain name
  unfolding is_plain
  plain_other f e = let n = sym f ∙ e in rw (n, and-false)

  pub plain-rest : (length name ≡ 0 → ⊥) → {first : Bool} → first ≡ is_plain_first (get_or name 0 0) → first ≡ true → all_of is_plain_byte name ≡ is_plain name
  unfolding is_plain
  plain-rest full f e = let n = sym f ∙ e in rw (length-empty name, ne_eqb (length name) 0 full, n)

  split : (k i : ℕ) → all_of is_plain_byte (drop i name) ≡ (all_of is_plain_byte (take k (drop i name)) && all_of is_plain_byte (drop (i + k) name))
  split k i =
      ap (all_of is_plain_byte) (sym (take-append-drop k (drop i name))) ∙ all_append is_plain_byte (take k (drop i name)) (drop k (drop i name))
      ∙ ap (λ (l : List ℕ). all_of is_plain_byte (take k (drop i name)) && all_of is_plain_byte l) (drop-drop k i name)

  module _ (k i : ℕ) {part : Bool} (p : part ≡ all_of is_plain_byte (take k (drop i name))) where
    pub part-fails : part ≡ false → all_of is_plain_byte (drop i name) ≡ false
    part-fails e = split k i ∙ ap (λ (b : Bool). b && all_of is_plain_byte (drop (i + k) name)) (sym p ∙ e)

    pub part-passes : part ≡ true → all_of is_plain_byte (drop (i + k) name) ≡ all_of is_plain_byte (drop i name)
    part-passes e = sym (split k i ∙ ap (λ (b : Bool). b && all_of is_plain_byte (drop (i + k) name)) (sym p ∙ e))

-- The groups of n bytes that a string begins with.
group-at : (n k : ℕ) (l : List ℕ) (i : ℕ) → i < k → get_or (first_chunks n k l) i [] ≡ take n (drop (n * i) l)
group-at n zero l i h = absurd (omega arith)
group-at n (suc k) l zero h = let none : n * 0 ≡ 0 = omega arith in rw none refl
group-at n (suc k) l (suc i) h =
    let more : n * suc i ≡ n + n * i = omega arith in
    rw (more, ← drop-drop (n * i) n l) (group-at n k (drop n l) i (omega arith))

pub group-is :
    (n : ℕ) (l : List ℕ) {groups : List (List ℕ)} (i : ℕ) → groups ≡ first_chunks n (length l / n) l → i < length l / n
    → {part : Bool} → part ≡ all_of is_plain_byte (get_or groups i []) → part ≡ all_of is_plain_byte (take n (drop (n * i) l))
group-is n l i e h p = rw (e, group-at n (length l / n) l i h) at p
