-- No attribute and no declaration stands twice: from refusal 7.
-- Assumes nothing.
use Prim.Native.Nat.{ℕ, suc, ◌<◌}
use mathlib.Core.Path.{◌≡◌, refl, ap}
use mathlib.Core.Bool.{Bool, true, false, not}
use mathlib.Core.List.{List, [], ◌∷◌, map}
use native.Mathlib.Omega.{arith}
use lib.ListN.{length, get_or, take}
use lib.Dec.{eqb}
use borrow.Author.Tests.{eqb-true, eq-eqb}
use Rattle.rules.specs.Lists.{filtered, any_of, all_of, same_bytes}
use Rattle.rules.specs.Table.{NONE, ATTRIBUTE, DECLARATION, Node}
use Rattle.rules.specs.Refusals.{bad_declaration, is_double}
use Rattle.rules.specs.Lookups.{is_declaration_of}
use Rattle.rules.proofs.Lists.{by_cases, both_true, both_false, true-both, true-not-false, not-true}
use Rattle.markup.specs.Trees.{is_attribute, meant_attribute}
use Rattle.markup.specs.Namespaces.{is_legal_binding, all_different, same_prefix, same_expanded}
use Rattle.markup.proofs.Scopes.{binding}
use Rattle.markup.proofs.Owned.{Every}

-- No element is the double of an earlier one, from a test of each with those before it.
module _ {A : Type 0} (double : A → A → Bool) (d : A) where
  never_first : (x : A) (xs : List A) → ((r : ℕ) → r < length xs → double (get_or xs r d) x ≡ false) → any_of (λ (y : A). double y x) xs ≡ false
  never_first x [] h = refl
  never_first x (y ∷ xs) h = rw (h 0 (omega arith)) (never_first x xs (λ r l. h (suc r) (omega arith)))

  pub all-different : (xs : List A) → ((r : ℕ) → r < length xs → any_of (double (get_or xs r d)) (take r xs) ≡ false) → all_different (λ (x : A) (y : A). double y x) xs ≡ true
  all-different [] h = refl
  all-different (x ∷ xs) h =
      let first = never_first x xs (λ r l. (both_false (double (get_or xs r d) x) (any_of (double (get_or xs r d)) (take r xs)) (h (suc r) (omega arith))).0) in
      let later = all-different xs (λ r l. (both_false (double (get_or xs r d) x) (any_of (double (get_or xs r d)) (take r xs)) (h (suc r) (omega arith))).1) in
      rw first later

-- So it is of those that pass a test, seen otherwise.
module _ {A B : Type 0} (same : A → A → Bool) (view : A → B) (other : B → B → Bool) (test : A → Bool) (keeps : (x y : A) → test x ≡ true → test y ≡ true → other (view x) (view y) ≡ true → same x y ≡ true) where
  none_other : (x : A) → test x ≡ true → (xs : List A) → any_of (same x) xs ≡ false → any_of (other (view x)) (map view (filtered test xs)) ≡ false
  none_other x t [] h = refl
  none_other x t (y ∷ xs) h =
      let k = both_false (same x y) (any_of (same x) xs) h in
      by_cases (test y)
      (λ q.
      by_cases (other (view x) (view y))
      (λ o. absurd (true-not-false (keeps x y t q o) k.0))
      (λ o. rw (q, o) (none_other x t xs k.1)))
      (λ q. rw q (none_other x t xs k.1))

  pub different-seen : (xs : List A) → all_different same xs ≡ true → all_different other (map view (filtered test xs)) ≡ true
  different-seen [] h = refl
  different-seen (x ∷ xs) h =
      let k = both_true (not (any_of (same x) xs)) (all_different same xs) h in
      by_cases (test x)
      (λ q. rw q (rw (none_other x q xs (not-true (any_of (same x) xs) k.0)) (different-seen xs k.1)))
      (λ q. rw q (different-seen xs k.1))

-- Two declarations of one prefix, and two attributes of one URI and local name, that element e owns.
module _ (e : ℕ) (row : eqb e NONE ≡ false) where
  double-declaration : (x y : Node) → is_declaration_of e x ≡ true → is_declaration_of e y ≡ true → same_prefix (binding x) (binding y) ≡ true → is_double y x ≡ true
  unfolding is_double
  double-declaration x y p q s =
      let a = both_true (eqb x.type DECLARATION) (eqb x.parent e) p in
      let b = both_true (eqb y.type DECLARATION) (eqb y.parent e) q in
      rw (eqb-true x.type DECLARATION a.0, eqb-true y.type DECLARATION b.0, eqb-true x.parent e a.1, eqb-true y.parent e b.1, row, eq-eqb e e refl, s) refl

  double-attribute : (x y : Node) → is_attribute e x ≡ true → is_attribute e y ≡ true → same_expanded (meant_attribute x) (meant_attribute y) ≡ true → is_double y x ≡ true
  unfolding is_double
  double-attribute x y p q s =
      let a = both_true (eqb x.type ATTRIBUTE) (eqb x.parent e) p in
      let b = both_true (eqb y.type ATTRIBUTE) (eqb y.parent e) q in
      let n = both_true (same_bytes x.uri.bytes y.uri.bytes) (same_bytes x.local.bytes y.local.bytes) s in
      rw (eqb-true x.type ATTRIBUTE a.0, eqb-true y.type ATTRIBUTE b.0, eqb-true x.parent e a.1, eqb-true y.parent e b.1, row, eq-eqb e e refl, n.0, n.1) refl

  module _ (ns : List Node) (different : all_different (λ (x : Node) (y : Node). is_double y x) ns ≡ true) where
    pub prefixes-different : all_different same_prefix (map binding (filtered (is_declaration_of e) ns)) ≡ true
    prefixes-different = different-seen (λ (x : Node) (y : Node). is_double y x) binding same_prefix (is_declaration_of e) double-declaration ns different

    pub names-different : all_different same_expanded (map meant_attribute (filtered (is_attribute e) ns)) ≡ true
    names-different = different-seen (λ (x : Node) (y : Node). is_double y x) meant_attribute same_expanded (is_attribute e) double-attribute ns different

-- Declarations are legal: from refusal 6.
legal-binding : (n : Node) → n.type ≡ DECLARATION → bad_declaration n ≡ false → is_legal_binding (binding n) ≡ true
unfolding bad_declaration
legal-binding n t h = ap not (rw t at h)

pub bindings-legal : (e : ℕ) (ns : List Node) → Every (λ (n : Node). bad_declaration n ≡ false) ns → all_of is_legal_binding (map binding (filtered (is_declaration_of e) ns)) ≡ true
bindings-legal e [] h = refl
bindings-legal e (n ∷ ns) h =
    by_cases (is_declaration_of e n)
    (λ q.
    let t = eqb-true n.type DECLARATION (both_true (eqb n.type DECLARATION) (eqb n.parent e) q).0 in
    rw q (true-both (legal-binding n t h.0) (bindings-legal e ns h.1)))
    (λ q. rw q (bindings-legal e ns h.1))
