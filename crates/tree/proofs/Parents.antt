-- Refusal 2: no parent, a parent that is no earlier row, and one that is.
-- Assumes nothing.
use Prim.Native.Nat.{ℕ, ◌≤◌, ◌<◌}
use mathlib.Core.Path.{◌≡◌, refl, sym, ap, ◌∙◌}
use mathlib.Core.Bool.{Bool, true, false, ◌||◌, not, and-false, or-false}
use mathlib.Core.List.{List}
use mathlib.Core.Option.{Option, none, some}
use native.Mathlib.Omega.{arith}
use borrow.Author.Tests.{eq-eqb, ne_eqb, lt-ltb, le-ltb}
use lib.ListN.{get_or-eq_default}
use Rattle.rules.specs.Table.{MOST_ROWS, NONE, TYPE, PARENT, DOCUMENT, Node, no_node, word, nodes, node, row_count, is_element, ParentRule}
use Rattle.rules.specs.Refusals.{parent_rule, parent_allowed, second_element, bad_structure}
use Rattle.rules.proofs.Table.{length-nodes, node-nodes}
use Rattle.tree.specs.Parents.{NOTHING, line_of, rule_allows}
use Rattle.tree.specs.Earlier.{any_before, under}
use Rattle.tree.proofs.Allowed.{allowed-under}
use Rattle.tree.proofs.Earlier.{any-take}

module _ (ns : List Node) (r parent : ℕ) where
  alone : parent ≡ NONE → (o : Option ParentRule) → rule_allows o NOTHING ≡ parent_allowed ns r parent o
  unfolding rule_allows parent_allowed
  alone e none = refl
  alone e (some rule) = rw (eq-eqb parent NONE e)

  module _ (n : parent ≡ NONE → ⊥) where
    late : r ≤ parent → (o : Option ParentRule) → parent_allowed ns r parent o ≡ false
    unfolding parent_allowed
    late h none = refl
    late h (some rule) = rw (ne_eqb parent NONE n, le-ltb parent r h)

    early : parent < r → (kind : ℕ) (o : Option ParentRule) → parent_rule kind ≡ o → rule_allows o (line_of (node ns parent).type) ≡ parent_allowed ns r parent o
    unfolding rule_allows parent_allowed
    early h kind none q = refl
    early h kind (some rule) q = rw (ne_eqb parent NONE n, lt-ltb parent r h) (allowed-under kind (node ns parent).type rule q)

no-node : (table pool : List ℕ) → row_count table ≤ MOST_ROWS → node (nodes table pool) NONE ≡ no_node
unfolding node
no-node table pool b = get_or-eq_default (nodes table pool) no_node (rw length-nodes (omega arith))

module _ (table pool : List ℕ) (r : ℕ) (h : r < row_count table) {kind parent : ℕ} (k : kind ≡ word table r TYPE) (p : parent ≡ word table r PARENT) where
  structure : {a b : Bool} → a ≡ parent_allowed (nodes table pool) r parent (parent_rule kind) → b ≡ second_element (nodes table pool) r → (not a || b) ≡ bad_structure (nodes table pool) r
  unfolding bad_structure
  structure e f = rw (node-nodes table pool r h, ← k, ← p, e, f)

  second-alone : row_count table ≤ MOST_ROWS → parent ≡ NONE → false ≡ second_element (nodes table pool) r
  unfolding second_element
  second-alone b e = rw (node-nodes table pool r h, ← p, e, no-node table pool b, and-false)

  pub structure-alone : row_count table ≤ MOST_ROWS → parent ≡ NONE → {a : Bool} → a ≡ rule_allows (parent_rule kind) NOTHING → not a ≡ bad_structure (nodes table pool) r
  structure-alone b e {a} f =
      sym (or-false (not a)) ∙ structure (f ∙ alone (nodes table pool) r parent e (parent_rule kind)) (second-alone b e)

  module _ (n : parent ≡ NONE → ⊥) where
    pub structure-late : r ≤ parent → true ≡ bad_structure (nodes table pool) r
    structure-late l = structure (sym (late (nodes table pool) r parent n l (parent_rule kind))) refl

    module _ (l : parent < r) {above : ℕ} (t : above ≡ word table parent TYPE) where
      there : above ≡ (node (nodes table pool) parent).type
      there = rw (node-nodes table pool parent (omega arith)) t

      second-elsewhere : (above ≡ DOCUMENT → ⊥) → false ≡ second_element (nodes table pool) r
      unfolding second_element
      second-elsewhere d = rw (node-nodes table pool r h, ← p, ← there, ne_eqb above DOCUMENT d, and-false)

      second-other : is_element kind ≡ false → false ≡ second_element (nodes table pool) r
      unfolding second_element
      second-other g = rw (node-nodes table pool r h, ← k, g)

      second-under : above ≡ DOCUMENT → is_element kind ≡ true → any_before (under table parent) r ≡ second_element (nodes table pool) r
      unfolding second_element under
      second-under q g =
          rw (node-nodes table pool r h, ← k, ← p, ← there, any-take _ table pool r (omega arith), eq-eqb above DOCUMENT q, g)

      allowed : {a : Bool} → a ≡ rule_allows (parent_rule kind) (line_of above) → a ≡ parent_allowed (nodes table pool) r parent (parent_rule kind)
      allowed f =
          f ∙ ap (λ (type : ℕ). rule_allows (parent_rule kind) (line_of type)) there ∙ early (nodes table pool) r parent n l kind (parent_rule kind) refl

      module _ {a : Bool} (f : a ≡ rule_allows (parent_rule kind) (line_of above)) where
        -- The table alone decides.
        pub structure-told : (above ≡ DOCUMENT → ⊥) → not a ≡ bad_structure (nodes table pool) r
        structure-told d = sym (or-false (not a)) ∙ structure (allowed f) (second-elsewhere d)

        pub structure-refused : a ≡ false → true ≡ bad_structure (nodes table pool) r
        structure-refused e = structure (sym e ∙ allowed f) refl

        module _ (e : a ≡ true) where
          pub structure-elsewhere : (above ≡ DOCUMENT → ⊥) → false ≡ bad_structure (nodes table pool) r
          structure-elsewhere d = structure (sym e ∙ allowed f) (second-elsewhere d)

          pub structure-other : is_element kind ≡ false → false ≡ bad_structure (nodes table pool) r
          structure-other g = structure (sym e ∙ allowed f) (second-other g)

          pub structure-second : above ≡ DOCUMENT → is_element kind ≡ true → {found : Bool} → found ≡ any_before (under table parent) r → found ≡ bad_structure (nodes table pool) r
          structure-second d g i = structure (sym e ∙ allowed f) (i ∙ second-under d g)
