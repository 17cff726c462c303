-- The climb to ancestor elements, step by step.
-- Assumes nothing.
use Prim.Native.Nat.{ℕ, zero, suc, ◌≤◌, ◌<◌}
use native.Mathlib.Omega.{arith}
use mathlib.Core.Bool.{true, false, cond}
use mathlib.Core.List.{List, [], ◌∷◌}
use mathlib.Core.Logic.{◌⊎◌, inl, inr, ⊎_elim}
use mathlib.Core.Option.{none, some}
use mathlib.Core.Path.{◌≡◌, refl, sym, ap, ◌∙◌}
use lib.ListN.{length, get_or, get_or-eq_default}
use lib.Dec.{eqb, ltb}
use borrow.Author.Tests.{ltb-true, ltb-false, lt-ltb, le-ltb, ne_eqb, eqb-true, eqb-false}
use Rattle.rules.specs.Lists.{all_of}
use Rattle.rules.specs.Table.{ENTITY_REFERENCE, Node, no_node, node, is_element}
use Rattle.rules.specs.Lookups.{climb, elements_from, nearest, ancestor_element}
use Rattle.rules.proofs.Lists.{by_cases, true-both, true-not-false, all_of-get_or}

module _ (ns : List Node) where
  -- The steps of the climb after row r.
  abbrev onward : List ℕ → ℕ → List ℕ
  onward above r = cond (ltb (node ns r).parent r) above []

  abbrev stepped : List ℕ → ℕ → List ℕ
  stepped outward r =
      cond (is_element (node ns r).type) (r ∷ outward) (cond (eqb (node ns r).type ENTITY_REFERENCE) outward [])

  -- The climb ends before its steps do.
  pub climb-enough : (k j r : ℕ) → r < k → r < j → climb k ns r ≡ climb j ns r
  unfolding climb
  climb-enough zero j r p q = absurd (omega arith)
  climb-enough (suc k) zero r p q = absurd (omega arith)
  climb-enough (suc k) (suc j) r p q =
      ap (λ outward. stepped outward r)
      (by_cases (ltb (node ns r).parent r)
      (λ is.
      let less : (node ns r).parent < r = ltb-true (node ns r).parent r is in
      ap (λ above. onward above r) (climb-enough k j (node ns r).parent (omega arith) (omega arith)))
      (λ is. rw is refl))

  -- The ancestor elements of row r, without itself.
  unfoldable pub above : ℕ → List ℕ
  above r = onward (elements_from ns (node ns r).parent) r

  pub elements-step : (r : ℕ) → elements_from ns r ≡ stepped (above r) r
  unfolding climb elements_from above
  elements-step r =
      ap (λ outward. stepped outward r)
      (by_cases (ltb (node ns r).parent r)
      (λ is.
      let less : (node ns r).parent < r = ltb-true (node ns r).parent r is in
      ap (λ later. onward later r) (climb-enough r (suc (node ns r).parent) (node ns r).parent less (omega arith)))
      (λ is. rw is refl))

  pub elements-element : (r : ℕ) → is_element (node ns r).type ≡ true → elements_from ns r ≡ r ∷ above r
  elements-element r is =
      elements-step r ∙ ap (λ t. cond t (r ∷ above r) (cond (eqb (node ns r).type ENTITY_REFERENCE) (above r) [])) is

  pub elements-reference : (r : ℕ) → (node ns r).type ≡ ENTITY_REFERENCE → elements_from ns r ≡ above r
  elements-reference r is =
      elements-step r ∙ ap (λ type. cond (is_element type) (r ∷ above r) (cond (eqb type ENTITY_REFERENCE) (above r) [])) is

  pub elements-other :
      (r : ℕ) → is_element (node ns r).type ≡ false → ((node ns r).type ≡ ENTITY_REFERENCE → ⊥) → elements_from ns r ≡ []
  elements-other r is other =
      elements-step r ∙ ap (λ t. cond t (r ∷ above r) (cond (eqb (node ns r).type ENTITY_REFERENCE) (above r) [])) is
      ∙ ap (λ t. cond t (above r) []) (ne_eqb (node ns r).type ENTITY_REFERENCE other)

  pub above-falls : (r : ℕ) → (node ns r).parent < r → above r ≡ elements_from ns (node ns r).parent
  unfolding above
  above-falls r less = ap (λ t. cond t (elements_from ns (node ns r).parent) []) (lt-ltb (node ns r).parent r less)

  pub above-none : (r : ℕ) → r ≤ (node ns r).parent → above r ≡ []
  unfolding above
  above-none r more = ap (λ t. cond t (elements_from ns (node ns r).parent) []) (le-ltb (node ns r).parent r more)

  -- A row that is not there leads nowhere.
  outside : (r : ℕ) → length ns ≤ r → node ns r ≡ no_node
  unfolding node
  outside r past = get_or-eq_default ns no_node past

  pub elements-outside : (r : ℕ) → length ns ≤ r → elements_from ns r ≡ []
  elements-outside r past =
      let type : (node ns r).type ≡ 0 = ap (λ m. m.type) (outside r past) in
      elements-other r (ap is_element type) (λ is. let five : ◌≡◌ {A = ℕ} 0 ENTITY_REFERENCE = sym type ∙ is in omega arith)

  -- An element is a row of the table.
  pub element-inside : (e : ℕ) → is_element (node ns e).type ≡ true → e < length ns
  element-inside e is =
      by_cases (ltb e (length ns)) (λ less. ltb-true e (length ns) less)
      (λ more. absurd (true-not-false is (ap (λ m. is_element m.type) (outside e (ltb-false e (length ns) more)))))

  -- The climb from row r comes to no element, or to e first.
  abbrev First : ℕ → Type 0
  First r =
      (elements_from ns r ≡ [])
      ⊎ ((e : ℕ) × (e ≤ r) × (is_element (node ns e).type ≡ true) × (elements_from ns r ≡ elements_from ns e))

  first_below : (k r : ℕ) → r < k → First r
  first_below zero r less = absurd (omega arith)
  first_below (suc k) r less =
      by_cases (is_element (node ns r).type) (λ is. inr (r, omega arith, is, refl))
      (λ not-element.
      by_cases (eqb (node ns r).type ENTITY_REFERENCE)
      (λ reference.
      let up : elements_from ns r ≡ above r = elements-reference r (eqb-true (node ns r).type ENTITY_REFERENCE reference) in
      by_cases (ltb (node ns r).parent r)
      (λ falls.
      let lower : (node ns r).parent < r = ltb-true (node ns r).parent r falls in
      let same : elements_from ns r ≡ elements_from ns (node ns r).parent = up ∙ above-falls r lower in
      ⊎_elim (λ none. inl (same ∙ none)) (λ found. inr (found.0, omega (arith, found.1), found.2, same ∙ found.3))
      (first_below k (node ns r).parent (omega arith)))
      (λ stays. inl (up ∙ above-none r (ltb-false (node ns r).parent r stays))))
      (λ other. inl (elements-other r not-element (eqb-false (node ns r).type ENTITY_REFERENCE other))))

  -- Row r has no ancestor element, or a is its nearest one.
  abbrev pub Ancestor : ℕ → Type 0
  Ancestor r =
      ((ancestor_element ns r ≡ none) × (above r ≡ []))
      ⊎ ((a : ℕ) × (a < r) × (is_element (node ns a).type ≡ true) × (ancestor_element ns r ≡ some a) × (above r ≡ elements_from ns a))

  pub ancestor-split : (r : ℕ) → Ancestor r
  unfolding ancestor_element
  ancestor-split r =
      by_cases (ltb (node ns r).parent r)
      (λ falls.
      let lower : (node ns r).parent < r = ltb-true (node ns r).parent r falls in
      let up : above r ≡ elements_from ns (node ns r).parent = above-falls r lower in
      ⊎_elim
      (λ none. inl (rw falls (ap nearest none), up ∙ none))
      (λ found.
      inr (found.0, omega (arith, found.1), found.2, rw falls (ap nearest (found.3 ∙ elements-element found.0 found.2)), up ∙ found.3))
      (first_below (suc (node ns r).parent) (node ns r).parent (omega arith)))
      (λ stays. inl (rw stays refl, above-none r (ltb-false (node ns r).parent r stays)))

  -- Whatever the climb comes to is an element, and there are no more of them than steps.
  climb-elements : (steps r : ℕ) → all_of (λ e. is_element (node ns e).type) (climb steps ns r) ≡ true
  unfolding climb
  climb-elements zero r = refl
  climb-elements (suc steps) r =
      let outward = cond (ltb (node ns r).parent r) (climb steps ns (node ns r).parent) [] in
      let later : all_of (λ e. is_element (node ns e).type) outward ≡ true =
      by_cases (ltb (node ns r).parent r) (λ is. rw is (climb-elements steps (node ns r).parent)) (λ is. rw is refl) in
      by_cases (is_element (node ns r).type) (λ is. rw is (true-both is later))
      (λ is. rw is (by_cases (eqb (node ns r).type ENTITY_REFERENCE) (λ five. rw five later) (λ other. rw other refl)))

  pub elements-each : (r i : ℕ) → i < length (elements_from ns r) → is_element (node ns (get_or (elements_from ns r) i 0)).type ≡ true
  unfolding elements_from
  elements-each r i less = all_of-get_or (λ e. is_element (node ns e).type) (climb (suc r) ns r) 0 i (climb-elements (suc r) r) less

  climb-length : (steps r : ℕ) → length (climb steps ns r) ≤ steps
  unfolding climb
  climb-length zero r = omega arith
  climb-length (suc steps) r =
      let outward = cond (ltb (node ns r).parent r) (climb steps ns (node ns r).parent) [] in
      let later : length outward ≤ steps =
      by_cases (ltb (node ns r).parent r) (λ is. rw is (climb-length steps (node ns r).parent)) (λ is. rw is (omega arith)) in
      by_cases (is_element (node ns r).type) (λ is. rw is (omega (arith, later)))
      (λ is. rw is (by_cases (eqb (node ns r).type ENTITY_REFERENCE) (λ five. rw five (omega (arith, later))) (λ other. rw other (omega arith))))

  pub elements-length : (r : ℕ) → length (elements_from ns r) ≤ suc r
  unfolding elements_from
  elements-length r = climb-length (suc r) r
