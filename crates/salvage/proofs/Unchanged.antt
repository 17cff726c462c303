-- A table of which no row is dropped stays as it is, and none of a table that passes is dropped.
-- Assumes nothing.
use Prim.Native.Nat.{ℕ, zero, suc, ◌+◌, ◌≤◌, ◌<◌}
use mathlib.Core.Path.{◌≡◌, refl, sym, ◌∙◌, ap, subst}
use mathlib.Core.Logic.{◌⊎◌, inl, inr}
use mathlib.Core.Bool.{Bool, false}
use mathlib.Core.List.{List, [], ◌∷◌, ◌++◌, map}
use mathlib.Core.Option.{none}
use native.Mathlib.Nat.{le_refl, zero-add}
use native.Mathlib.Omega.{arith}
use lib.ListN.{length, get_or, take, length-map}
use lib.Seq.{ext_get_or}
use lib.Dec.{eqb}
use borrow.Author.Tests.{eqb-true, eqb-false}
use Rattle.rules.specs.Lists.{any_of, numbers_from}
use Rattle.rules.specs.Table.{NONE, Node, no_node, nodes, node}
use Rattle.rules.specs.Refusals.{is_double}
use Rattle.rules.proofs.Lists.{by_cases, length-numbers_from, get_or-numbers_from}
use Rattle.rules.proofs.Table.{get_d_map}
use Rattle.rules.proofs.Accepted.{Accepted}
use Rattle.dropped_rows.specs.Dropped.{drop_refusal, kept, drops_below}
use Rattle.salvage.specs.Salvage.{new_parent, with_parent, salvaged_nodes}
use Rattle.dropped_rows.proofs.Kept.{IsKept, kept_next, drops-not, numbers-end}

-- Rows that are all kept, and stand behind their parents.
module _ (ns : List Node) (all : (r : ℕ) → r < length ns → IsKept ns r) where
  pub all-kept : (count : ℕ) → count ≤ length ns → kept ns count ≡ numbers_from 0 count
  unfolding kept
  all-kept zero h = refl
  all-kept (suc r) h =
      kept_next ns r (all r h)
      ∙ ap (λ (l : List ℕ). l ++ r ∷ []) (all-kept r (omega arith))
      ∙ ap (λ (k : ℕ). numbers_from 0 r ++ k ∷ []) (sym (zero-add r)) ∙ numbers-end 0 r

  pub nothing-dropped : (count : ℕ) → count ≤ length ns → drops_below ns count ≡ []
  unfolding drops_below
  nothing-dropped zero h = refl
  nothing-dropped (suc r) h = drops-not ns r (all r h) ∙ nothing-dropped r (omega arith)

  module _ (behind : (r : ℕ) → r < length ns → ((node ns r).parent ≡ NONE) ⊎ ((node ns r).parent < r)) where
    parent-stays : (r : ℕ) → r < length ns → new_parent ns (node ns r).parent ≡ (node ns r).parent
    unfolding new_parent
    parent-stays r i =
        by_cases (eqb (node ns r).parent NONE)
        (λ q. rw q (sym (eqb-true (node ns r).parent NONE q)))
        (λ q. rw q (go q (behind r i)))
      where
        go : eqb (node ns r).parent NONE ≡ false → ((node ns r).parent ≡ NONE) ⊎ ((node ns r).parent < r) → length (kept ns (node ns r).parent) ≡ (node ns r).parent
        go q (inl z) = absurd (eqb-false (node ns r).parent NONE q z)
        go q (inr p) = ap length (all-kept (node ns r).parent (omega arith)) ∙ length-numbers_from 0 (node ns r).parent

    row_stays : (r : ℕ) → r < length ns → with_parent (new_parent ns (node ns r).parent) (node ns r) ≡ node ns r
    row_stays r i = rw (parent-stays r i) refl

    pub rows_stay : salvaged_nodes ns ≡ ns
    unfolding salvaged_nodes node
    rows_stay =
        let f : ℕ → Node = λ (r : ℕ). with_parent (new_parent ns (node ns r).parent) (node ns r) in
        let numbers = numbers_from 0 (length ns) in
        let long : length (map f numbers) ≡ length ns = length-map numbers f ∙ length-numbers_from 0 (length ns) in
        ap (map f) (all-kept (length ns) (le_refl (length ns)))
        ∙ ext_get_or no_node (map f numbers) ns long
        (λ r i.
        let l : r < length ns = subst (λ (k : ℕ). r < k) long i in
        get_d_map f numbers r 0 no_node (rw length-numbers_from l)
        ∙ ap f (get_or-numbers_from 0 (length ns) r 0 l ∙ zero-add r)
        ∙ row_stays r l)

-- The rows of the first numbers are the first rows.
any-first : (test : Node → Bool) (ns ms : List Node) (i count : ℕ) → count ≤ length ms → ((k : ℕ) → k < count → node ns (i + k) ≡ node ms k) → any_of (λ (s : ℕ). test (node ns s)) (numbers_from i count) ≡ any_of test (take count ms)
unfolding node
any-first test ns ms i zero h e = refl
any-first test ns [] i (suc count) h e = absurd (omega arith)
any-first test ns (m ∷ ms) i (suc count) h e =
    let here : get_or ns i no_node ≡ m = ap (λ (k : ℕ). get_or ns k no_node) (omega arith) ∙ e 0 (omega arith) in
    let later = any-first test ns ms (suc i) count (omega arith) (λ k l. ap (λ (j : ℕ). get_or ns j no_node) (omega arith) ∙ e (suc k) (omega arith)) in
    rw (here, later) refl

module _ (table pool : List ℕ) (a : Accepted table pool) where
  abbrev ns : List Node
  ns = nodes table pool

  none_dropped : (r : ℕ) → r < length ns → drop_refusal ns (numbers_from 0 r) r ≡ none
  unfolding drop_refusal
  none_dropped r i =
      let same = any-first (is_double (node ns r)) ns ns 0 r (omega arith) (λ k l. ap (node ns) (zero-add k)) in
      rw ((a.row r i).declaration, same, (a.row r i).double) refl

  first-kept : (count : ℕ) → count ≤ length ns → kept ns count ≡ numbers_from 0 count
  unfolding kept
  first-kept zero h = refl
  first-kept (suc r) h =
      rw (first-kept r (omega arith), none_dropped r h)
      (ap (λ (k : ℕ). numbers_from 0 r ++ k ∷ []) (sym (zero-add r)) ∙ numbers-end 0 r)

  pub accepted-kept : (r : ℕ) → r < length ns → IsKept ns r
  accepted-kept r i = rw (first-kept r (omega arith)) (none_dropped r i)
