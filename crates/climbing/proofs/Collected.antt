-- What the climb writes to a path: a law for each way that it takes from a row.
-- Assumes nothing.
use Prim.Native.Nat.{ℕ, suc, ◌+◌, ◌-◌, ◌≤◌, ◌<◌}
use native.Mathlib.Omega.{arith}
use mathlib.Core.Bool.{true, false, cond, ◌&&◌, ◌||◌}
use mathlib.Core.List.{List, [], ◌∷◌, ◌++◌, append-nil}
use mathlib.Core.Path.{◌≡◌, refl, sym, ap, ◌∙◌, subst}
use lib.ListN.{length, take, set, length-set}
use lib.Seq.{take-nil, take-suc-set, append_snoc}
use lib.Dec.{eqb, ltb}
use borrow.Author.Tests.{eqb-true, eqb-false, ltb-true, ltb-false}
use Rattle.rules.specs.Table.{TYPE, PARENT, ENTITY_REFERENCE, Node, nodes, node, row_count, word, is_element}
use Rattle.rules.specs.Lookups.{elements_from}
use Rattle.rules.proofs.Lists.{by_cases, both_true}
use Rattle.rows.proofs.Words.{type-word, parent-word}
use Rattle.climbing.specs.Steps.{path_with, Stepped}
use Rattle.climbing.proofs.Elements.{above, elements-element, elements-reference, elements-other, above-falls, above-none}

-- What is written where the row is an element, and where it is not.
module _ (path : List ℕ) (kind r count : ℕ) where
  pub entered : is_element kind ≡ true → (count + 1 ≡ cond (is_element kind) (count + 1) count) × (set path count r ≡ cond (is_element kind) (set path count r) path)
  entered is = rw is (refl, refl)

  pub not_entered : is_element kind ≡ false → (count ≡ cond (is_element kind) (count + 1) count) × (path ≡ cond (is_element kind) (set path count r) path)
  not_entered is = rw is (refl, refl)

  pub entered-room :
      (taken : ℕ) (after : List ℕ) → taken ≡ cond (is_element kind) (count + 1) count → after ≡ cond (is_element kind) (set path count r) path → count < length path
      → taken ≤ length after
  entered-room taken after counted written room =
      by_cases (is_element kind)
      (λ is. rw (counted, written, is) (rw (length-set path count r) (omega arith)))
      (λ is. rw (counted, written, is) (omega arith))

-- The climb goes on to a lower row.
pub out-falls : (kind r parent : ℕ) → (is_element kind || eqb kind ENTITY_REFERENCE) && ltb parent r ≡ true → parent < r
out-falls kind r parent goes = ltb-true parent r (both_true (is_element kind || eqb kind ENTITY_REFERENCE) (ltb parent r) goes).1

-- Nothing comes behind the first places, or there is no room for it.
with_none : (path : List ℕ) (count : ℕ) → take count path ≡ path_with path count []
with_none path count = sym (ap (λ l. take count path ++ l) (take-nil (length path - count)) ∙ append-nil (take count path))

with-full : (path : List ℕ) (count : ℕ) (rows : List ℕ) → length path ≤ count → take count path ≡ path_with path count rows
with-full path count rows full =
    let none : length path - count ≡ 0 = omega arith in
    sym (ap (λ k. take count path ++ take k rows) none ∙ append-nil (take count path))

-- A row is written to the next place, and then come the others.
with-next :
    (path : List ℕ) (count row : ℕ) (rows : List ℕ) → count < length path → path_with (set path count row) (count + 1) rows ≡ path_with path count (row ∷ rows)
with-next path count row rows room =
    let next : count + 1 ≡ suc count = omega arith in
    let left : length path - count ≡ suc (length path - suc count) = omega arith in
    let rest : length (set path count row) - (count + 1) ≡ length path - suc count = ap (λ k. k - (count + 1)) (length-set path count row) ∙ ap (λ k. length path - k) next in
    ap (λ k. take k (set path count row) ++ take (length (set path count row) - (count + 1)) rows) next
    ∙ ap (λ l. l ++ take (length (set path count row) - (count + 1)) rows) (take-suc-set path count row room)
    ∙ ap (λ k. (take count path ++ (row ∷ [])) ++ take k rows) rest
    ∙ append_snoc (take count path) row (take (length path - suc count) rows)
    ∙ ap (λ k. take count path ++ take k (row ∷ rows)) (sym left)

-- The climb from row r of the table, of this type and parent, to a path whose first places, so many, are taken.
module _ (table pool path : List ℕ) (r count kind parent : ℕ) (within : r < row_count table) (type : kind ≡ word table r TYPE) (up : parent ≡ word table r PARENT) where
  abbrev ns : List Node
  ns = nodes table pool

  above_parent : parent < r → above ns r ≡ elements_from ns parent
  above_parent falls =
      let same : (node ns r).parent ≡ parent = parent-word table pool r within ∙ sym up in
      above-falls ns r (subst (λ p. p < r) (sym same) falls) ∙ ap (elements_from ns) same

  above-top : r ≤ parent → above ns r ≡ []
  above-top stays = above-none ns r (subst (λ p. r ≤ p) (up ∙ sym (parent-word table pool r within)) stays)

  module _ (is : is_element kind ≡ true) (room : count < length path) where
    first : elements_from ns r ≡ r ∷ above ns r
    first = elements-element ns r (ap is_element (type-word table pool r within ∙ sym type) ∙ is)

    written : (rows : List ℕ) → above ns r ≡ rows → path_with (set path count r) (count + 1) rows ≡ path_with path count (elements_from ns r)
    written rows e = with-next path count r rows room ∙ ap (path_with path count) (ap (λ l. r ∷ l) (sym e) ∙ sym first)

    element-onward : parent < r → path_with (set path count r) (count + 1) (elements_from ns parent) ≡ path_with path count (elements_from ns r)
    element-onward falls = written (elements_from ns parent) (above_parent falls)

    element-top : r ≤ parent → take (count + 1) (set path count r) ≡ path_with path count (elements_from ns r)
    element-top stays = with_none (set path count r) (count + 1) ∙ written [] (above-top stays)

    element-full : length path ≤ count + 1 → take (count + 1) (set path count r) ≡ path_with path count (elements_from ns r)
    element-full full =
        with-full (set path count r) (count + 1) (above ns r) (rw (length-set path count r) full) ∙ written (above ns r) refl

  module _ (is : kind ≡ ENTITY_REFERENCE) where
    passed : elements_from ns r ≡ above ns r
    passed = elements-reference ns r (type-word table pool r within ∙ sym type ∙ is)

    reference-onward : parent < r → path_with path count (elements_from ns parent) ≡ path_with path count (elements_from ns r)
    reference-onward falls = ap (path_with path count) (sym (passed ∙ above_parent falls))

    reference-top : r ≤ parent → take count path ≡ path_with path count (elements_from ns r)
    reference-top stays = with_none path count ∙ ap (path_with path count) (sym (passed ∙ above-top stays))

  other : is_element kind ≡ false → (kind ≡ ENTITY_REFERENCE → ⊥) → take count path ≡ path_with path count (elements_from ns r)
  other is no-reference =
      with_none path count
      ∙ ap (path_with path count)
      (sym (elements-other ns r (ap is_element (type-word table pool r within ∙ sym type) ∙ is) (λ e. no-reference (type ∙ sym (type-word table pool r within) ∙ e))))

  -- The row is written if it is an element, so many places are taken, and the climb goes on or ends.
  module _ (room : count < length path) (taken : ℕ) (after : List ℕ) (counted : taken ≡ cond (is_element kind) (count + 1) count) (stored : after ≡ cond (is_element kind) (set path count r) path) where
    pub onward :
        (is_element kind || eqb kind ENTITY_REFERENCE) && ltb parent r ≡ true
        → path_with after taken (elements_from ns parent) ≡ path_with path count (elements_from ns r)
    onward goes =
        let both = both_true (is_element kind || eqb kind ENTITY_REFERENCE) (ltb parent r) goes in
        let falls : parent < r = out-falls kind r parent goes in
        by_cases (is_element kind)
        (λ is. rw (counted, stored, is) (element-onward is room falls))
        (λ is.
        let reference : eqb kind ENTITY_REFERENCE ≡ true = rw is at both.0 in
        rw (counted, stored, is) (reference-onward (eqb-true kind ENTITY_REFERENCE reference) falls))

    pub full : length after ≤ taken → take taken after ≡ path_with path count (elements_from ns r)
    full past =
        by_cases (is_element kind)
        (λ is.
        let most : length (set path count r) ≤ count + 1 = rw (counted, stored, is) at past in
        rw (counted, stored, is) (element-full is room (rw (length-set path count r) at most)))
        (λ is. let most : length path ≤ count = rw (counted, stored, is) at past in absurd (omega arith))

    pub ended : (is_element kind || eqb kind ENTITY_REFERENCE) && ltb parent r ≡ false → take taken after ≡ path_with path count (elements_from ns r)
    ended ends =
        by_cases (is_element kind)
        (λ is.
        let stays : ltb parent r ≡ false = rw is at ends in
        rw (counted, stored, is) (element-top is room (ltb-false parent r stays)))
        (λ is.
        by_cases (eqb kind ENTITY_REFERENCE)
        (λ reference.
        let stays : ltb parent r ≡ false = rw (is, reference) at ends in
        rw (counted, stored, is) (reference-top (eqb-true kind ENTITY_REFERENCE reference) (ltb-false parent r stays)))
        (λ none. rw (counted, stored, is) (other is (eqb-false kind ENTITY_REFERENCE none))))

-- A step from row r: it goes on, the path is full, or it ends.
module _
    (table path : List ℕ) (r count kind parent : ℕ) (within : r < row_count table) (type : kind ≡ word table r TYPE) (up : parent ≡ word table r PARENT) (room : count < length path)
    (taken : ℕ) (after : List ℕ) (counted : taken ≡ cond (is_element kind) (count + 1) count) (stored : after ≡ cond (is_element kind) (set path count r) path)
  where
    fits : taken ≤ length after
    fits = entered-room path kind r count taken after counted stored room

    pub step-on : (is_element kind || eqb kind ENTITY_REFERENCE) && ltb parent r ≡ true → taken < length after → Stepped table path r count after parent taken
    step-on goes left =
        let falls = out-falls kind r parent goes in
        record { room = fits; onward = λ _. (left, λ pool. onward table pool path r count kind parent within type up room taken after counted stored goes); ended = λ stays. absurd (omega arith) }

    pub step-full : length after ≤ taken → Stepped table path r count after r taken
    step-full past =
        record { room = fits; onward = λ falls. absurd (omega arith); ended = λ _ pool. full table pool path r count kind parent within type up room taken after counted stored past }

    pub step_end : (is_element kind || eqb kind ENTITY_REFERENCE) && ltb parent r ≡ false → Stepped table path r count after r taken
    step_end ends =
        record { room = fits; onward = λ falls. absurd (omega arith); ended = λ _ pool. ended table pool path r count kind parent within type up room taken after counted stored ends }
