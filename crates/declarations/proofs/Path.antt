-- The first declaration along a path that passes a test: an element's own, or one from the next element on.
-- Assumes nothing.
use Prim.Native.Nat.{ℕ, ◌+◌, ◌≤◌, ◌<◌}
use mathlib.Core.Bool.{Bool, true}
use mathlib.Core.List.{List, [], ◌∷◌, ◌++◌}
use mathlib.Core.Path.{◌≡◌, refl, sym, ap, ◌∙◌}
use native.Mathlib.Numerals.{add-one}
use lib.Dec.{eqb}
use borrow.Author.Tests.{eqb-true}
use lib.ListN.{length, get_or, drop, drop_of_length-le}
use lib.Seq.{drop-cons}
use Rattle.rules.specs.Lists.{first_that, filtered, all_of}
use Rattle.rules.specs.Table.{NONE, DECLARATION, Node, nodes, node_at, row_count}
use Rattle.rules.specs.Lookups.{is_declaration_of, own_declarations, scope_of}
use Rattle.rules.proofs.Lists.{by_cases, both_true, true-both, first_that-append-none, first_that-append-some, all_of-append, all_of-first_that}
use Rattle.rows.specs.Reading.{found}
use Rattle.declarations.proofs.Rows.{found_some, found_none}

-- What is declared along a path from position i on: the declarations of the element there, and what is declared further on.
module _ (ns : List Node) (path : List ℕ) (i : ℕ) where
  pub path-split :
      i < length path → (e : ℕ) → e ≡ get_or path i 0 → scope_of ns (drop i path) ≡ own_declarations ns e ++ scope_of ns (drop (i + 1) path)
  unfolding scope_of
  path-split less e here =
      ap (scope_of ns) (drop-cons path i 0 less)
      ∙ sym (ap (λ j. own_declarations ns (get_or path i 0) ++ scope_of ns (drop j path)) (add-one i))
      ∙ sym (ap (λ x. own_declarations ns x ++ scope_of ns (drop (i + 1) path)) here)

  pub path-past : length path ≤ i → scope_of ns (drop i path) ≡ []
  unfolding scope_of
  path-past past = ap (scope_of ns) (drop_of_length-le path past)

-- The search along the path has come to position i: what is left gives what there is to find.
pub record Searching (table pool path : List ℕ) (test : Node → Bool) (i : ℕ) : Type 0 where
  pub left : first_that test (scope_of (nodes table pool) (drop i path)) ≡ first_that test (scope_of (nodes table pool) path)

module _ (table pool path : List ℕ) (test : Node → Bool) where
  abbrev ns : List Node
  ns = nodes table pool

  module _ (i : ℕ) (searching : Searching table pool path test i) where
    pub searching-end : row_count table ≤ NONE → length path ≤ i → found ns NONE ≡ first_that test (scope_of ns path)
    searching-end limit past = found_none table pool NONE limit ∙ sym (ap (first_that test) (path-past ns path i past)) ∙ searching.left

    -- e is the element at i, and d the first of its own declarations that passes, or no row.
    module _ (less : i < length path) (e : ℕ) (here : e ≡ get_or path i 0) (d : ℕ) (own : found ns d ≡ first_that test (own_declarations ns e)) where
      split : scope_of ns (drop i path) ≡ own_declarations ns e ++ scope_of ns (drop (i + 1) path)
      split = path-split ns path i less e here

      pub searching-hit : d < row_count table → found ns d ≡ first_that test (scope_of ns path)
      searching-hit within =
          found_some table pool d within
          ∙ sym (ap (first_that test) split
          ∙ first_that-append-some test (own_declarations ns e) (scope_of ns (drop (i + 1) path)) (sym own ∙ found_some table pool d within))
          ∙ searching.left

      pub searching-next : row_count table ≤ d → Searching table pool path test (i + 1)
      searching-next past =
          record {
            left =
                sym (ap (first_that test) split
                ∙ first_that-append-none test (own_declarations ns e) (scope_of ns (drop (i + 1) path)) (sym own ∙ found_none table pool d past))
                ∙ searching.left;
          }

-- What is declared along a path is a declaration.
module _ (ns : List Node) where
  abbrev declaration? : Node → Bool
  declaration? n = eqb n.type DECLARATION

  own-all : (e : ℕ) (ms : List Node) → all_of declaration? (filtered (is_declaration_of e) ms) ≡ true
  own-all e [] = refl
  own-all e (n ∷ ms) =
      by_cases (is_declaration_of e n)
      (λ t. rw t (true-both (both_true (declaration? n) (eqb n.parent e) t).0 (own-all e ms)))
      (λ t. rw t (own-all e ms))

  scope-all : (path : List ℕ) → all_of declaration? (scope_of ns path) ≡ true
  unfolding scope_of own_declarations
  scope-all [] = refl
  scope-all (e ∷ path) = all_of-append declaration? (own_declarations ns e) (scope_of ns path) (own-all e ns) (scope-all path)

module _ (table pool : List ℕ) (d : ℕ) (within : d < row_count table) (test : Node → Bool) where
  pub own-declaration : (e : ℕ) → found (nodes table pool) d ≡ first_that test (own_declarations (nodes table pool) e) → (node_at table pool d).type ≡ DECLARATION
  unfolding own_declarations
  own-declaration e is =
      eqb-true (node_at table pool d).type DECLARATION
      (all_of-first_that (declaration? (nodes table pool)) test (own_declarations (nodes table pool) e) (own-all (nodes table pool) e (nodes table pool)) (sym is ∙ found_some table pool d within))

  pub scope-declaration : (path : List ℕ) → found (nodes table pool) d ≡ first_that test (scope_of (nodes table pool) path) → (node_at table pool d).type ≡ DECLARATION
  scope-declaration path is =
      eqb-true (node_at table pool d).type DECLARATION
      (all_of-first_that (declaration? (nodes table pool)) test (scope_of (nodes table pool) path) (scope-all (nodes table pool) path) (sym is ∙ found_some table pool d within))
