-- What lies in texts and declarations, and what is noted beside a row: laws of a table that can be walked through.
-- Assumes nothing.
use Prim.Native.Nat.{ℕ, ◌+◌, ◌-◌, ◌*◌, ◌≤◌, ◌<◌}
use mathlib.Core.Path.{◌≡◌, refl, ap, ◌∙◌, subst}
use mathlib.Core.Bool.{true, false, ◌&&◌, ◌||◌, not}
use mathlib.Core.List.{List}
use mathlib.Core.Option.{Option, none, some}
use native.Mathlib.Omega.{arith}
use lib.Dec.{eqb, ltb}
use lib.ListN.{length, set, length-set}
use borrow.Author.Tests.{eqb-true, eqb-false, ne_eqb}
use Rattle.rules.specs.Lists.{is_one_of}
use Rattle.rules.specs.Table.{NONE, TYPE, PARENT, ATTRIBUTE, TEXT, DECLARATION, Node, nodes, node, word, row_count, is_element, ParentRule, allowed_parents}
use Rattle.rules.specs.Refusals.{parent_rule, parent_allowed}
use Rattle.rules.proofs.Lists.{by_cases, both_true, both_false, not-true, true-not-false, all_of-first_that}
use Rattle.rules.proofs.Table.{length-nodes}
use Rattle.rules.proofs.Accepted.{parent-allowed}
use Rattle.rows.proofs.Words.{type-word, parent-word}
use Rattle.notes.specs.Notes.{LATEST, note_at}
use Rattle.stacks.specs.Stacks.{NUMBERED, under_at}
use Rattle.scopes.specs.Rows.{owner_of}
use Rattle.scopes.proofs.Own.{reach-first}
use Rattle.scopes.proofs.Definitions.{tree-accepted}
use Rattle.near_rows.specs.Outward.{is_leaf, Noted}
use Rattle.near_rows.proofs.Outward.{xml-kept}
use Rattle.unsettled.specs.Walkable.{Walkable}
use Rattle.unsettled.proofs.Walking.{is-accepted, few, walkable-kept}

-- No rule lets a row lie in a text or a declaration.
leafless : (type : ℕ) (rule : ParentRule) → parent_rule type ≡ some rule → (is_one_of rule.parents TEXT || is_one_of rule.parents DECLARATION) ≡ false
unfolding parent_rule
leafless type rule e =
    not-true (is_one_of rule.parents TEXT || is_one_of rule.parents DECLARATION)
    (all_of-first_that (λ (line : ParentRule). not (is_one_of line.parents TEXT || is_one_of line.parents DECLARATION)) (λ (line : ParentRule). eqb line.type type) allowed_parents {x = rule} refl e)

module _ {table pool notes tops path : List ℕ} (w : Walkable table pool notes tops path) where
  abbrev ns : List Node
  ns = nodes table pool

  inside : {r : ℕ} → r < row_count table → r < length ns
  inside h = rw (length-nodes table pool) h

  -- A row lies in no leaf.
  pub parent-inner : (r : ℕ) → r < row_count table → word table r PARENT < r → is_leaf (word table (word table r PARENT) TYPE) ≡ false
  unfolding parent_allowed
  parent-inner r below less = go (parent_rule (node ns r).type) refl
    where
      go : (o : Option ParentRule) → parent_rule (node ns r).type ≡ o → is_leaf (word table (word table r PARENT) TYPE) ≡ false
      go none e = absurd (true-not-false (rw e at (parent-allowed ns (length pool) r ((is-accepted w).row r (inside below)))) refl)
      go (some rule) e =
          let allowed = (both_true (ltb (node ns r).parent r) (is_one_of rule.parents (node ns (node ns r).parent).type) (rw (e, ne_eqb (node ns r).parent NONE (λ z. omega (arith, z, parent-word table pool r below, few w))) at (parent-allowed ns (length pool) r ((is-accepted w).row r (inside below))))).1 in
          let above : is_one_of rule.parents (word table (word table r PARENT) TYPE) ≡ true =
          subst (λ (k : ℕ). is_one_of rule.parents k ≡ true) (ap (λ (k : ℕ). (node ns k).type) (parent-word table pool r below) ∙ type-word table pool (word table r PARENT) (omega arith)) allowed in
          let leaves = both_false (is_one_of rule.parents TEXT) (is_one_of rule.parents DECLARATION) (leafless (node ns r).type rule e) in
          by_cases (eqb (word table (word table r PARENT) TYPE) TEXT)
          (λ t. absurd (true-not-false (subst (λ (k : ℕ). is_one_of rule.parents k ≡ true) (eqb-true (word table (word table r PARENT) TYPE) TEXT t) above) leaves.0))
          (λ t.
          by_cases (eqb (word table (word table r PARENT) TYPE) DECLARATION)
          (λ u. absurd (true-not-false (subst (λ (k : ℕ). is_one_of rule.parents k ≡ true) (eqb-true (word table (word table r PARENT) TYPE) DECLARATION u) above) leaves.1))
          (λ u. rw (t, u) refl))

  -- What owns a declaration is an element.
  owner-kind : (r d : ℕ) → r < row_count table → 0 < d → d ≤ row_count table → owner_of table d ≡ r → is_element (node ns r).type ≡ true
  unfolding owner_of
  owner-kind r d below some-row within owned =
      let small = few w in
      let row : d - 1 < row_count table = omega arith in
      by_cases (eqb (word table (d - 1) TYPE) DECLARATION && ltb (word table (d - 1) PARENT) (d - 1))
      (λ t.
      let kind = eqb-true (word table (d - 1) TYPE) DECLARATION (both_true (eqb (word table (d - 1) TYPE) DECLARATION) (ltb (word table (d - 1) PARENT) (d - 1)) t).0 in
      let owner : word table (d - 1) PARENT ≡ r = rw t at owned in
      subst (λ (k : ℕ). is_element (node ns k).type ≡ true) (parent-word table pool (d - 1) row ∙ owner)
      ((tree-accepted table pool (is-accepted w)).owners (d - 1) (inside row) (type-word table pool (d - 1) row ∙ kind)).1)
      (λ t. let none : NONE ≡ r = rw t at owned in absurd (omega (arith, none)))

  -- An attribute declares nothing.
  pub attribute-bare : (r : ℕ) → r < row_count table → word table r TYPE ≡ ATTRIBUTE → note_at notes r LATEST ≡ 0
  attribute-bare r below kind =
      by_cases (eqb (note_at notes r LATEST) 0)
      (λ t. eqb-true (note_at notes r LATEST) 0 t)
      (λ t.
      let some-row = eqb-false (note_at notes r LATEST) 0 t in
      let small = few w in
      let reached = reach-first table r notes w.linked (omega arith) (note_at notes r LATEST) refl in
      absurd (true-not-false (owner-kind r (note_at notes r LATEST) below (omega arith) reached.within (reached.owned (omega arith))) (rw (type-word table pool r below ∙ kind) refl)))

  -- The nearest position of a row is noted: xml keeps its number, and the table can still be walked through.
  module _ (r : ℕ) (noted : Noted table notes path r) (n : ℕ) {path' : List ℕ} (is : path' ≡ set path (4 * (r + 1) + NUMBERED) n) where
    pub noted-xml : under_at path' NUMBERED 0 ≡ under_at path NUMBERED 0
    noted-xml = ap (λ (l : List ℕ). under_at l NUMBERED 0) is ∙ xml-kept table notes path r noted n

    pub noted-walkable : Walkable table pool notes tops path'
    noted-walkable = walkable-kept w tops path' refl (ap length is ∙ length-set path (4 * (r + 1) + NUMBERED) n) noted-xml
