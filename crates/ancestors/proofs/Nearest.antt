-- Elements of a table: the nearest ancestor element, and what a path has.
-- Assumes nothing.
use Prim.Native.Nat.{ℕ, ◌≤◌, ◌<◌, zero-le}
use native.Mathlib.Omega.{arith}
use native.Mathlib.Nat.{not-suc-le-zero, sub-zero}
use mathlib.Core.Bool.{true}
use mathlib.Core.List.{List, [], ◌∷◌}
use mathlib.Core.Logic.{◌⊎◌, inl, inr, ⊎_elim}
use mathlib.Core.Option.{Option, none, some}
use mathlib.Core.Path.{◌≡◌, refl, sym, ap, ◌∙◌, subst}
use lib.ListN.{length, get_or, take}
use lib.Seq.{length-take-le, take_all, get_or-take}
use borrow.Author.Tests.{lt-ltb, le-ltb}
use Rattle.rules.specs.Table.{NONE, PARENT, Node, nodes, node, row_count, word, is_element}
use Rattle.rules.specs.Lookups.{elements_from, nearest, ancestor_element, start_element, outward_from, lookup_elements}
use Rattle.rules.proofs.Table.{length-nodes}
use Rattle.rows.specs.Reading.{row_or}
use Rattle.rows.proofs.Words.{type-word, parent-word}
use Rattle.climbing.specs.Steps.{path_with}
use Rattle.ancestors.specs.Paths.{Element, PathOf}
use Rattle.climbing.proofs.Elements.{above, elements-element, elements-outside, element-inside, elements-each, elements-length, ancestor-split}

-- An element by its words and by its row.
module _ (table pool : List ℕ) (e : ℕ) where
  pub element-node : Element table e → is_element (node (nodes table pool) e).type ≡ true
  element-node element = ap is_element (type-word table pool e element.within) ∙ element.type

  pub node-element : is_element (node (nodes table pool) e).type ≡ true → Element table e
  node-element is =
      let within : e < row_count table = rw length-nodes at (element-inside (nodes table pool) e is) in
      record { within = within; type = ap is_element (sym (type-word table pool e within)) ∙ is }

  -- An element of the table comes first on its own climb.
  pub element-first : Element table e → elements_from (nodes table pool) e ≡ e ∷ above (nodes table pool) e
  element-first element = elements-element (nodes table pool) e (element-node element)

-- a is the nearest ancestor element of row r, or NONE.
module _ (table pool : List ℕ) (limit : row_count table ≤ NONE) (r a : ℕ) (next : a ≡ row_or (ancestor_element (nodes table pool) r)) where
  abbrev ns : List Node
  ns = nodes table pool

  nowhere : elements_from ns NONE ≡ []
  nowhere = elements-outside ns NONE (rw length-nodes limit)

  pub above-next : above ns r ≡ elements_from ns a
  above-next =
      ⊎_elim
      (λ none. none.1 ∙ sym (ap (elements_from ns) (next ∙ ap row_or none.0) ∙ nowhere))
      (λ found. found.4 ∙ sym (ap (elements_from ns) (next ∙ ap row_or found.3)))
      (ancestor-split ns r)

  pub next-element : (a ≡ NONE) ⊎ ((a < r) × Element table a)
  next-element =
      ⊎_elim
      (λ none. inl (next ∙ ap row_or none.0))
      (λ found.
      let same : found.0 ≡ a = sym (next ∙ ap row_or found.3) in
      inr (subst (λ i. i < r) same found.1, subst (Element table) same (node-element table pool found.0 found.2)))
      (ancestor-split ns r)

  -- One step outward from an element.
  module _ (element : Element table r) where
    pub outward : elements_from ns r ≡ r ∷ elements_from ns a
    outward = element-first table pool r element ∙ ap (λ l. r ∷ l) above-next

    pub outward-end : r ≤ a → elements_from ns r ≡ r ∷ []
    outward-end stays =
        outward
        ∙ ap (λ l. r ∷ l)
        (⊎_elim (λ none. ap (elements_from ns) none ∙ nowhere) (λ found. absurd (omega (arith, found.0))) next-element)

    pub outward-element : a < r → Element table a
    outward-element falls = ⊎_elim (λ none. absurd (omega (arith, element.within))) (λ found. found.1) next-element

-- The nearest ancestor element of row r, from a path of one place.
module _ (table pool : List ℕ) (r parent : ℕ) (within : r < row_count table) (up : parent ≡ word table r PARENT) where
  from-parent : parent < r → nearest (elements_from (nodes table pool) parent) ≡ ancestor_element (nodes table pool) r
  unfolding ancestor_element
  from-parent falls =
      let less : word table r PARENT < r = subst (λ p. p < r) up falls in
      rw (up, parent-word table pool r within, lt-ltb (word table r PARENT) r less) refl

  pub ancestor-none : r ≤ parent → NONE ≡ row_or (ancestor_element (nodes table pool) r)
  unfolding ancestor_element
  ancestor-none stays =
      let more : r ≤ word table r PARENT = subst (λ p. r ≤ p) up stays in
      rw (parent-word table pool r within, le-ltb (word table r PARENT) r more) refl

  module _ (falls : parent < r) (path : List ℕ) (count : ℕ) (room : count ≤ length path) (taken : take count path ≡ take 1 (elements_from (nodes table pool) parent)) where
    pub ancestor-found : count ≡ 1 → get_or path 0 0 ≡ row_or (ancestor_element (nodes table pool) r)
    ancestor-found one =
        head path (elements_from (nodes table pool) parent) (subst (λ k. k ≤ length path) one room) (ap (λ k. take k path) (sym one) ∙ taken)
        ∙ ap row_or (from-parent falls)
      where
        head : (l rows : List ℕ) → 1 ≤ length l → take 1 l ≡ take 1 rows → get_or l 0 0 ≡ row_or (nearest rows)
        head [] rows some-room e = absurd (not-suc-le-zero some-room)
        head (x ∷ l) [] some-room e = cc
        head (x ∷ l) (y ∷ rows) some-room e = cc

    pub ancestor-missing : (count ≡ 1 → ⊥) → length path ≡ 1 → NONE ≡ row_or (ancestor_element (nodes table pool) r)
    ancestor-missing other one =
        let none-taken : count ≡ 0 = omega arith in
        empty (elements_from (nodes table pool) parent) (ap (λ k. take k path) (sym none-taken) ∙ taken) ∙ ap row_or (from-parent falls)
      where
        empty : (rows : List ℕ) → [] ≡ take 1 rows → NONE ≡ row_or (nearest rows)
        empty [] e = refl
        empty (y ∷ rows) e = cc

-- A path that has the elements from row e outward is one of elements.
pub path-elements :
    (table path : List ℕ) (count e : ℕ) → count ≤ length path → take count path ≡ elements_from (nodes table []) e → PathOf table path count
path-elements table path count e room taken =
    record {
      room = room;
      each = λ i less.
          let here : get_or (elements_from (nodes table []) e) i 0 ≡ get_or path i 0 = ap (λ l. get_or l i 0) (sym taken) ∙ get_or-take count path i 0 less in
          let size : length (elements_from (nodes table []) e) ≡ count = ap length (sym taken) ∙ length-take-le count path room in
          subst (Element table) here (node-element table [] (get_or (elements_from (nodes table []) e) i 0) (elements-each (nodes table []) e i (omega arith)));
    }

pub path-none : (table path : List ℕ) → PathOf table path 0
path-none table path = record { room = zero-le; each = λ i less. absurd (not-suc-le-zero less) }

-- A path with a place for each row has room for all of them.
pub all_room :
    (table pool : List ℕ) (e : ℕ) (path : List ℕ) → e < row_count table → row_count table ≤ length path
    → path_with path 0 (elements_from (nodes table pool) e) ≡ elements_from (nodes table pool) e
all_room table pool e path within room =
    ap (λ k. take k (elements_from (nodes table pool) e)) (sub-zero (length path))
    ∙ take_all (length path) (elements_from (nodes table pool) e) (omega (arith, elements-length (nodes table pool) e))

-- The elements of a lookup from row r, whose start element is e, or NONE.
module _ (table pool : List ℕ) (limit : row_count table ≤ NONE) (r e : ℕ) (number : e ≡ row_or (start_element (nodes table pool) r)) where
  from_start : elements_from (nodes table pool) e ≡ lookup_elements (nodes table pool) r
  unfolding lookup_elements
  from_start = go (start_element (nodes table pool) r) number
    where
      go : (o : Option ℕ) → e ≡ row_or o → elements_from (nodes table pool) e ≡ outward_from (nodes table pool) o
      go none is = ap (elements_from (nodes table pool)) is ∙ elements-outside (nodes table pool) NONE (rw length-nodes limit)
      go (some f) is = ap (elements_from (nodes table pool)) is

  pub lookup-nothing : row_count table ≤ e → [] ≡ lookup_elements (nodes table pool) r
  lookup-nothing past = sym (elements-outside (nodes table pool) e (rw length-nodes past)) ∙ from_start

  pub lookup-found :
      (path after : List ℕ) (count : ℕ) → e < row_count table → row_count table ≤ length path → take count after ≡ path_with path 0 (elements_from (nodes table pool) e)
      → take count after ≡ lookup_elements (nodes table pool) r
  lookup-found path after count within room taken = taken ∙ all_room table pool e path within room ∙ from_start
