-- In an accepted table the start element of a row is an element: a lookup from a row goes through no elements exactly
-- where the row has no start element.
-- Assumes nothing.
use Prim.Native.Nat.{ℕ, ◌<◌}
use mathlib.Core.Bool.{true, ◌&&◌}
use mathlib.Core.List.{List, [], ◌∷◌}
use mathlib.Core.Logic.{⊎_elim}
use mathlib.Core.Option.{none, some, none-ne-some}
use mathlib.Core.Path.{◌≡◌, refl, sym, ap, ◌∙◌, subst}
use lib.ListN.{length}
use lib.Dec.{eqb}
use borrow.Author.Tests.{eqb-false}
use Rattle.rules.specs.Lists.{is_one_of, numbers_from}
use Rattle.rules.specs.Table.{NONE, ATTRIBUTE, ENTITY, DOCUMENT, DOCUMENT_TYPE, DOCUMENT_FRAGMENT, NOTATION, DECLARATION, LEVEL1_ATTRIBUTE, Node, nodes, node, is_element}
use Rattle.rules.specs.Lookups.{ancestor_element, owner, element_child, start_element, outward_from, lookup_elements}
use Rattle.rules.proofs.Lists.{by_cases, both_true, first_that-passes}
use Rattle.rules.proofs.Accepted.{Accepted, owner-element}
use Rattle.climbing.proofs.Elements.{above, elements-element, ancestor-split}

module _ (table pool : List ℕ) (r : ℕ) (accepted : Accepted table pool) (inside : r < length (nodes table pool)) where
  abbrev ns : List Node
  ns = nodes table pool

  owner-is : is_one_of (ATTRIBUTE ∷ LEVEL1_ATTRIBUTE ∷ DECLARATION ∷ []) (node ns r).type ≡ true → (e : ℕ) → owner ns r ≡ some e → is_element (node ns e).type ≡ true
  unfolding owner
  owner-is type e is =
      by_cases (eqb (node ns r).parent NONE) (λ none. absurd (none-ne-some e (rw none at is)))
      (λ other.
      let same : some (node ns r).parent ≡ some e = rw other at is in
      subst (λ i. is_element (node ns i).type ≡ true) (cc)
      (owner-element ns (length pool) r (accepted.row r inside) (reorder (node ns r).type type) (eqb-false (node ns r).parent NONE other)).1)
    where
      reorder :
          (type : ℕ) → is_one_of (ATTRIBUTE ∷ LEVEL1_ATTRIBUTE ∷ DECLARATION ∷ []) type ≡ true
          → is_one_of (ATTRIBUTE ∷ DECLARATION ∷ LEVEL1_ATTRIBUTE ∷ []) type ≡ true
      reorder type e =
          by_cases (eqb type ATTRIBUTE) (λ a. rw a refl)
          (λ a. by_cases (eqb type DECLARATION) (λ b. rw (a, b) refl) (λ b. rw (a, b) (rw (a, b) at e)))

  child-is : (e : ℕ) → element_child ns r ≡ some e → is_element (node ns e).type ≡ true
  unfolding element_child
  child-is e is =
      (both_true (is_element (node ns e).type) (eqb (node ns e).parent r)
      (first_that-passes (λ child. is_element (node ns child).type && eqb (node ns child).parent r) (numbers_from 0 (length ns)) is)).0

  ancestor-is : (e : ℕ) → ancestor_element ns r ≡ some e → is_element (node ns e).type ≡ true
  ancestor-is e is =
      ⊎_elim (λ none. absurd (none-ne-some e (sym none.0 ∙ is)))
      (λ found. subst (λ i. is_element (node ns i).type ≡ true) (let same : some found.0 ≡ some e = sym found.3 ∙ is in cc) found.2)
      (ancestor-split ns r)

  pub start_is : (e : ℕ) → start_element ns r ≡ some e → is_element (node ns e).type ≡ true
  unfolding start_element
  start_is e is =
      by_cases (is_element (node ns r).type)
      (λ self. subst (λ i. is_element (node ns i).type ≡ true) (let same : some r ≡ some e = rw self at is in cc) self)
      (λ a.
      by_cases (is_one_of (ATTRIBUTE ∷ LEVEL1_ATTRIBUTE ∷ DECLARATION ∷ []) (node ns r).type) (λ own. owner-is own e (rw (a, own) at is))
      (λ b.
      by_cases (eqb (node ns r).type DOCUMENT) (λ document. child-is e (rw (a, b, document) at is))
      (λ d.
      by_cases (is_one_of (ENTITY ∷ DOCUMENT_TYPE ∷ DOCUMENT_FRAGMENT ∷ NOTATION ∷ []) (node ns r).type) (λ no. absurd (none-ne-some e (rw (a, b, d, no) at is)))
      (λ f. ancestor-is e (rw (a, b, d, f) at is)))))

  pub start-some : (e : ℕ) → start_element ns r ≡ some e → lookup_elements ns r ≡ e ∷ above ns e
  unfolding lookup_elements
  start-some e is = ap (outward_from ns) is ∙ elements-element ns e (start_is e is)

  pub start_none : start_element ns r ≡ none → lookup_elements ns r ≡ []
  unfolding lookup_elements
  start_none is = ap (outward_from ns) is
