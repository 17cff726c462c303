-- A table that is right in its lines is asked rightly of every type: each has the line of its rule.
-- Assumes nothing.
use Prim.Native.Nat.{ℕ, ◌+◌, ◌≤◌, ◌<◌}
use mathlib.Core.Path.{◌≡◌, refl, sym, ap, ◌∙◌}
use mathlib.Core.Bool.{Bool, true, false, ◌&&◌, ◌||◌, beq}
use mathlib.Core.List.{List, [], ◌∷◌}
use mathlib.Core.Option.{Option, some}
use native.Mathlib.Nat.{zero-add}
use native.Mathlib.Omega.{arith}
use borrow.Author.Tests.{le-leb, lt-leb, ne_eqb, leb-true, leb-false, eqb-true, eqb-false}
use lib.Dec.{eqb, leb}
use lib.ListN.{get_or}
use Rattle.rules.specs.Lists.{any_of, all_of, numbers_from, is_one_of}
use Rattle.rules.specs.Table.{ELEMENT, ATTRIBUTE, DECLARATION, LEVEL1_ELEMENT, LEVEL1_ATTRIBUTE, ParentRule, allowed_parents}
use Rattle.rules.specs.Refusals.{parent_rule}
use Rattle.rules.proofs.Lists.{by_cases, both_true, true-not-false, first_that-none, all_of-get_or, all_of-first_that, get_or-numbers_from, length-numbers_from}
use Rattle.tree.specs.Parents.{NOTHING, line_of, rule_allows, bit, Right}

below : (test : ℕ → Bool) (n k : ℕ) → all_of test (numbers_from 0 n) ≡ true → k < n → test k ≡ true
below test n k t h =
    let e : get_or (numbers_from 0 n) k 0 ≡ k = get_or-numbers_from 0 n k 0 h ∙ zero-add k in
    rw e at (all_of-get_or test (numbers_from 0 n) 0 k t (rw length-numbers_from h))

beq-equal : (a b : Bool) → beq a b ≡ true → a ≡ b
beq-equal true true e = refl
beq-equal true false e = sym e
beq-equal false true e = e
beq-equal false false e = refl

pub bit-right : (table : List ℕ) → Right table → (line above : ℕ) → line < NOTHING → above ≤ NOTHING → bit (get_or table line 0) above ≡ rule_allows (parent_rule line) above
bit-right table t line above h l =
    let same : ℕ → ℕ → Bool = λ i j. beq (bit (get_or table i 0) j) (rule_allows (parent_rule i) j) in
    beq-equal (bit (get_or table line 0) above) (rule_allows (parent_rule line) above)
    (below (same line) (NOTHING + 1) above (below (λ i. all_of (same i) (numbers_from 0 (NOTHING + 1))) NOTHING line t.bits h) (omega arith))

-- The types that the line of a type is not 0 for, and 0.
abbrev is_known : ℕ → Bool
is_known t = leb t DECLARATION || eqb t LEVEL1_ELEMENT || eqb t LEVEL1_ATTRIBUTE

-- The line of a type.
module _ (t : ℕ) where
  pub line_low : t ≤ DECLARATION → line_of t ≡ t
  unfolding line_of
  line_low h = rw (le-leb t DECLARATION)

  pub line-element : t ≡ LEVEL1_ELEMENT → line_of t ≡ ELEMENT
  unfolding line_of
  line-element e = rw e

  pub line-attribute : t ≡ LEVEL1_ATTRIBUTE → line_of t ≡ ATTRIBUTE
  unfolding line_of
  line-attribute e = rw e

  pub line-unknown : DECLARATION < t → (t ≡ LEVEL1_ELEMENT → ⊥) → (t ≡ LEVEL1_ATTRIBUTE → ⊥) → line_of t ≡ 0
  unfolding line_of
  line-unknown h m n = rw (lt-leb t DECLARATION h, ne_eqb t LEVEL1_ELEMENT m, ne_eqb t LEVEL1_ATTRIBUTE n)

  -- What holds of a type and itself, of 257 and 1, of 258 and 2 and of an unknown type and 0 holds of a type and its line.
  by-line : (P : ℕ → ℕ → Type 0) → (t ≤ DECLARATION → P t t) → P LEVEL1_ELEMENT ELEMENT → P LEVEL1_ATTRIBUTE ATTRIBUTE → (is_known t ≡ false → P t 0) → P t (line_of t)
  by-line P low element attribute unknown =
      by_cases (leb t DECLARATION)
      (λ e. rw (line_low (leb-true t DECLARATION e)) (low (leb-true t DECLARATION e)))
      (λ e. by_cases (eqb t LEVEL1_ELEMENT)
      (λ f. rw (line-element (eqb-true t LEVEL1_ELEMENT f), eqb-true t LEVEL1_ELEMENT f) element)
      (λ f. by_cases (eqb t LEVEL1_ATTRIBUTE)
      (λ g. rw (line-attribute (eqb-true t LEVEL1_ATTRIBUTE g), eqb-true t LEVEL1_ATTRIBUTE g) attribute)
      (λ g. rw (line-unknown (leb-false t DECLARATION e) (eqb-false t LEVEL1_ELEMENT f) (eqb-false t LEVEL1_ATTRIBUTE g)) (unknown (rw (e, f, g))))))

  pub line-bound : line_of t < NOTHING
  line-bound = by-line (λ _ line. line < NOTHING) (λ h. omega arith) (omega arith) (omega arith) (λ _. omega arith)

-- An unknown type is none of the known ones.
none-known : {A : Type 0} (t : ℕ) (type : A → ℕ) (test : A → Bool) → ((x : A) → test x ≡ true → type x ≡ t) → is_known t ≡ false → (xs : List A) → all_of (λ x. is_known (type x)) xs ≡ true → any_of test xs ≡ false
none-known t type test same u [] k = refl
none-known t type test same u (x ∷ xs) k =
    let both = both_true (is_known (type x)) (all_of (λ y. is_known (type y)) xs) k in
    by_cases (test x)
    (λ e. absurd (true-not-false both.0 (ap is_known (same x e) ∙ u)))
    (λ e. rw e (none-known t type test same u xs both.1))

-- What the rule of a type allows is what that of its line allows.
pub rule-line : (t above : ℕ) → rule_allows (parent_rule (line_of t)) above ≡ rule_allows (parent_rule t) above
unfolding parent_rule rule_allows
rule-line t above =
    by-line t (λ t line. rule_allows (parent_rule line) above ≡ rule_allows (parent_rule t) above) (λ _. refl) refl refl
    (λ u. ap (λ (o : Option ParentRule). rule_allows o above)
    (sym (first_that-none (λ rule. eqb rule.type t) allowed_parents
    (none-known t (λ (rule : ParentRule). rule.type) (λ rule. eqb rule.type t) (λ rule e. eqb-true rule.type t e) u allowed_parents refl))))

-- A rule lists known types, 257 wherever 1 and 258 wherever 2.
abbrev plain : List ℕ → Bool
plain ps =
    beq (is_one_of ps ELEMENT) (is_one_of ps LEVEL1_ELEMENT) && beq (is_one_of ps ATTRIBUTE) (is_one_of ps LEVEL1_ATTRIBUTE)
    && beq (is_one_of ps 0) false && all_of is_known ps

parents-line : (ps : List ℕ) (p : ℕ) → plain ps ≡ true → is_one_of ps (line_of p) ≡ is_one_of ps p
parents-line ps p k =
    let known = both_true _ _ k in
    let zero = both_true _ _ known.0 in
    let level1 = both_true _ _ zero.0 in
    by-line p (λ p line. is_one_of ps line ≡ is_one_of ps p) (λ _. refl) (beq-equal _ _ level1.0) (beq-equal _ _ level1.1)
    (λ u. beq-equal _ _ zero.1 ∙ sym (none-known p (λ x. x) (eqb p) (λ x e. sym (eqb-true p x e)) u ps known.1))

rule-plain : (t : ℕ) {rule : ParentRule} → parent_rule t ≡ some rule → plain rule.parents ≡ true
unfolding parent_rule
rule-plain t e = all_of-first_that (λ rule. plain rule.parents) (λ rule. eqb rule.type t) allowed_parents refl e

-- What the rule says of the line of a parent's type it says of the type.
pub allowed-under : (kind type : ℕ) (rule : ParentRule) → parent_rule kind ≡ some rule → rule_allows (some rule) (line_of type) ≡ is_one_of rule.parents type
unfolding rule_allows
allowed-under kind type rule q =
    let n : line_of type ≡ NOTHING → ⊥ = λ e. omega (arith, line-bound type) in
    rw (ne_eqb (line_of type) NOTHING n) (parents-line rule.parents type (rule-plain kind q))
