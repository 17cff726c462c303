-- The start element of a row, and the elements of a lookup: a law for each answer.
-- Assumes nothing.
use Prim.Native.Nat.{ℕ, zero, suc, ◌+◌, ◌≤◌, ◌<◌}
use native.Mathlib.Numerals.{add-one}
use native.Mathlib.Omega.{arith}
use Rattle.std.proofs.Common.{Option as Found, find, unwrap_or}
use Rattle.std.specs.List.{range_with_len}
use mathlib.Core.Bool.{Bool, true, false, cond, ◌&&◌}
use mathlib.Core.List.{List, [], ◌∷◌}
use mathlib.Core.Logic.{◌⊎◌, inl, inr}
use mathlib.Core.Option.{Option, none, some}
use mathlib.Core.Path.{◌≡◌, refl, sym, ap, ◌∙◌}
use lib.Dec.{eqb}
use borrow.Author.Tests.{ne_eqb, eqb-true}
use Rattle.rules.specs.Lists.{first_that, numbers_from, is_one_of}
use Rattle.rules.specs.Table.{NONE, TYPE, PARENT, ELEMENT, ATTRIBUTE, ENTITY, DOCUMENT, DOCUMENT_TYPE, DOCUMENT_FRAGMENT, NOTATION, DECLARATION, LEVEL1_ELEMENT, LEVEL1_ATTRIBUTE, Node, nodes, node, row_count, word, is_element}
use Rattle.rules.specs.Lookups.{ancestor_element, owner, element_child, start_element}
use Rattle.rules.proofs.Lists.{by_cases}
use Rattle.rules.proofs.Table.{length-nodes}
use Rattle.rows.specs.Reading.{row_or}
use Rattle.rows.proofs.Words.{type-word, parent-word}

-- Row i of the table is an element child of row r.
abbrev pub is_element_child : List ℕ → ℕ → ℕ → Bool
is_element_child table r i = is_element (word table i TYPE) && eqb (word table i PARENT) r

pub child-yes :
    (table : List ℕ) (r i kind parent : ℕ) → kind ≡ word table i TYPE → is_element kind ≡ true → parent ≡ word table i PARENT
    → eqb parent r ≡ is_element_child table r i
child-yes table r i kind parent p is q = rw (q, ← p, is) refl

pub child-no : (table : List ℕ) (r i kind : ℕ) → kind ≡ word table i TYPE → is_element kind ≡ false → false ≡ is_element_child table r i
child-no table r i kind p is = rw (← p, is) refl

-- The first number that passes a test, in the words of a search of a range.
first-range : (test : ℕ → Bool) (i n : ℕ) → unwrap_or (find test (range_with_len i n)) NONE ≡ row_or (first_that test (numbers_from i n))
first-range test i zero = refl
first-range test i (suc n) =
    by_cases (test i) (λ is. rw is refl) (λ is. rw (is, add-one) (first-range test (suc i) n))

-- The scan for the element child.
module _ (table : List ℕ) (r : ℕ) where
  same_tests : (pool : List ℕ) (i count : ℕ) → i + count ≤ row_count table → first_that (is_element_child table r) (numbers_from i count) ≡ first_that (λ child. is_element (node (nodes table pool) child).type && eqb (node (nodes table pool) child).parent r) (numbers_from i count)
  same_tests pool i zero within = refl
  same_tests pool i (suc count) within =
      rw (type-word table pool i (omega arith), parent-word table pool i (omega arith), same_tests pool (suc i) count (omega arith)) refl

  pub child-found :
      (pool : List ℕ) (found : Found ℕ) → found ≡ find (is_element_child table r) (range_with_len 0 (row_count table))
      → unwrap_or found NONE ≡ row_or (element_child (nodes table pool) r)
  unfolding element_child
  child-found pool found is =
      rw (is, length-nodes table pool)
      (first-range (is_element_child table r) 0 (row_count table) ∙ ap row_or (same_tests pool 0 (row_count table) (omega arith)))

-- The start element, by the type.
abbrev start_by : List Node → ℕ → ℕ → Option ℕ
start_by ns r type =
    cond (is_one_of (ELEMENT ∷ LEVEL1_ELEMENT ∷ []) type) (some r)
    (cond (is_one_of (ATTRIBUTE ∷ LEVEL1_ATTRIBUTE ∷ DECLARATION ∷ []) type) (owner ns r)
    (cond (eqb type DOCUMENT) (element_child ns r)
    (cond (is_one_of (ENTITY ∷ DOCUMENT_TYPE ∷ DOCUMENT_FRAGMENT ∷ NOTATION ∷ []) type) none (ancestor_element ns r))))

module _ (table pool : List ℕ) (r : ℕ) (within : r < row_count table) (kind : ℕ) (read : kind ≡ word table r TYPE) where
  by-type : (type : ℕ) → kind ≡ type → start_element (nodes table pool) r ≡ start_by (nodes table pool) r type
  unfolding start_element
  by-type type e = ap (start_by (nodes table pool) r) (type-word table pool r within ∙ sym read ∙ e)

  pub start-self : (kind ≡ ELEMENT) ⊎ (kind ≡ LEVEL1_ELEMENT) → r ≡ row_or (start_element (nodes table pool) r)
  start-self (inl e) = sym (ap row_or (by-type ELEMENT e))
  start-self (inr e) = sym (ap row_or (by-type LEVEL1_ELEMENT e))

  owner-number : row_or (owner (nodes table pool) r) ≡ word table r PARENT
  unfolding owner
  owner-number =
      rw (parent-word table pool r within)
      (by_cases (eqb (word table r PARENT) NONE) (λ is. rw is (sym (eqb-true (word table r PARENT) NONE is))) (λ is. rw is refl))

  pub start-owner :
      (kind ≡ ATTRIBUTE) ⊎ ((kind ≡ DECLARATION) ⊎ (kind ≡ LEVEL1_ATTRIBUTE)) → word table r PARENT ≡ row_or (start_element (nodes table pool) r)
  start-owner (inl e) = sym (ap row_or (by-type ATTRIBUTE e) ∙ owner-number)
  start-owner (inr (inl e)) = sym (ap row_or (by-type DECLARATION e) ∙ owner-number)
  start-owner (inr (inr e)) = sym (ap row_or (by-type LEVEL1_ATTRIBUTE e) ∙ owner-number)

  pub start-child : kind ≡ DOCUMENT → row_or (element_child (nodes table pool) r) ≡ row_or (start_element (nodes table pool) r)
  start-child e = sym (ap row_or (by-type DOCUMENT e))

  pub start_none : (kind ≡ ENTITY) ⊎ ((kind ≡ DOCUMENT_TYPE) ⊎ (kind ≡ NOTATION)) → NONE ≡ row_or (start_element (nodes table pool) r)
  start_none (inl e) = sym (ap row_or (by-type ENTITY e))
  start_none (inr (inl e)) = sym (ap row_or (by-type DOCUMENT_TYPE e))
  start_none (inr (inr e)) = sym (ap row_or (by-type NOTATION e))

  pub start-fragment : kind ≡ DOCUMENT_FRAGMENT → NONE ≡ row_or (start_element (nodes table pool) r)
  start-fragment e = sym (ap row_or (by-type DOCUMENT_FRAGMENT e))

  pub start-ancestor :
      ((kind ≡ ELEMENT) ⊎ (kind ≡ LEVEL1_ELEMENT) → ⊥) → ((kind ≡ ATTRIBUTE) ⊎ ((kind ≡ DECLARATION) ⊎ (kind ≡ LEVEL1_ATTRIBUTE)) → ⊥)
      → (kind ≡ DOCUMENT → ⊥) → ((kind ≡ ENTITY) ⊎ ((kind ≡ DOCUMENT_TYPE) ⊎ (kind ≡ NOTATION)) → ⊥) → (kind ≡ DOCUMENT_FRAGMENT → ⊥)
      → row_or (ancestor_element (nodes table pool) r) ≡ row_or (start_element (nodes table pool) r)
  start-ancestor self own doc none? fragment = sym (ap row_or (by-type kind refl ∙ by-others))
    where
      by-others : start_by (nodes table pool) r kind ≡ ancestor_element (nodes table pool) r
      by-others =
          rw (
            ne_eqb kind ELEMENT (λ e. self (inl e)),
            ne_eqb kind LEVEL1_ELEMENT (λ e. self (inr e)),
            ne_eqb kind ATTRIBUTE (λ e. own (inl e)),
            ne_eqb kind LEVEL1_ATTRIBUTE (λ e. own (inr (inr e))),
            ne_eqb kind DECLARATION (λ e. own (inr (inl e))),
            ne_eqb kind DOCUMENT doc,
            ne_eqb kind ENTITY (λ e. none? (inl e)),
            ne_eqb kind DOCUMENT_TYPE (λ e. none? (inr (inl e))),
            ne_eqb kind DOCUMENT_FRAGMENT fragment,
            ne_eqb kind NOTATION (λ e. none? (inr (inr e))),
          ) refl
