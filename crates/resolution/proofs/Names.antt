-- What the numbers of names say where the arrays stand is what refusal 44 says.
-- Assumes nothing.
use Prim.Native.Nat.{ℕ, ◌+◌, ◌≤◌, ◌<◌}
use mathlib.Core.Path.{◌≡◌, refl, sym, ap, ◌∙◌}
use mathlib.Core.Bool.{true, false, ◌&&◌, not}
use mathlib.Core.List.{List}
use lib.Dec.{eqb}
use lib.ListN.{length}
use borrow.Author.Tests.{eqb-true, eqb-false}
use Rattle.rules.specs.Table.{NONE, TYPE, PARENT, ELEMENT, ATTRIBUTE, Node, nodes, node, word, row_count}
use Rattle.rules.specs.Demands.{is_bound}
use Rattle.rules.specs.declared.Refusal.{Refusal}
use Rattle.rules.proofs.Lists.{by_cases, both_true, not-true}
use Rattle.rows.proofs.Words.{type-word, parent-word}
use Rattle.stacks.specs.Stacks.{NUMBERED, under_at}
use Rattle.scopes.specs.Rows.{up}
use Rattle.scopes.specs.Standing.{Standing}
use Rattle.near_rows.specs.Outward.{is_leaf, Noted}
use Rattle.near_rows.proofs.Outward.{stands-outside}
use Rattle.unsettled.specs.Walkable.{Walkable}
use Rattle.unsettled.proofs.Walking.{ready, element-is, attribute-is}
use Rattle.unsettled.proofs.Leaves.{attribute-bare}
use Rattle.proposals.specs.Proposals.{is_unresolved}
use Rattle.proposals.proofs.Scans.{Scanning}
use Rattle.proposal_names.specs.Tests.{is_unsettled}
use Rattle.resolution.specs.Known.{Known}

module _ {table pool notes tops path : List ℕ} (w : Walkable table pool notes tops path) (r : ℕ) (below : r < row_count table)
    (standing : is_leaf (word table r TYPE) ≡ false → Standing table notes tops path (r + 1)) where
  abbrev ns : List Node
  ns = nodes table pool

  element-case : eqb (word table r TYPE) ELEMENT ≡ true → is_unsettled table notes tops path r ≡ is_unresolved ns r
  unfolding is_unresolved is_bound
  element-case t =
      let kind = eqb-true (word table r TYPE) ELEMENT t in
      let here = standing (rw kind refl) in
      rw (type-word table pool r below, t) (ap not (element-is w (r + 1) here r below (rw t refl) t))

  attribute-case :
      eqb (word table r TYPE) ELEMENT ≡ false → (eqb (word table r TYPE) ATTRIBUTE && not (eqb (word table r PARENT) NONE)) ≡ true
      → is_unsettled table notes tops path r ≡ is_unresolved ns r
  unfolding is_unresolved is_bound
  attribute-case t u =
      let both = both_true (eqb (word table r TYPE) ATTRIBUTE) (not (eqb (word table r PARENT) NONE)) u in
      let kind = eqb-true (word table r TYPE) ATTRIBUTE both.0 in
      let parent = parent-word table pool r below in
      let owned : (node ns r).parent ≡ NONE → ⊥ = λ z. eqb-false (word table r PARENT) NONE (not-true (eqb (word table r PARENT) NONE) both.1) (sym parent ∙ z) in
      let here = stands-outside table notes r below (attribute-bare w r below kind) tops path (ready w) (standing (rw kind refl)) in
      rw (type-word table pool r below, parent, t, u)
      (ap not (attribute-is w (up table (r + 1)) here r below (rw t refl) t both.0 owned))

  pub unsettled-is : is_unsettled table notes tops path r ≡ is_unresolved ns r
  unfolding is_unresolved is_bound
  unsettled-is =
      by_cases (eqb (word table r TYPE) ELEMENT)
      element-case
      (λ t.
      by_cases (eqb (word table r TYPE) ATTRIBUTE && not (eqb (word table r PARENT) NONE))
      (attribute-case t)
      (λ u. rw (type-word table pool r below, parent-word table pool r below, t, u) refl))

-- The loop has come to row r.
pub record Resolving (table notes tops₀ path₀ tops path known : List ℕ) (position r : ℕ) : Type 0 where
  pub xml : under_at path NUMBERED 0 ≡ under_at path₀ NUMBERED 0
  pub standing : Standing table notes tops path position
  pub low : position ≤ row_count table
  pub noted : Noted table notes path r
  pub remembered : Known table notes known (length tops₀) (length path₀) (under_at path₀ NUMBERED 0)
  pub scanning : (pool : List ℕ) → Walkable table pool notes tops₀ path₀ → Scanning (is_unresolved (nodes table pool)) Refusal.Unresolved (length (nodes table pool)) r
