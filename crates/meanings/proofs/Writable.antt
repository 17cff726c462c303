-- What one pass tells of the rows of a table, and what it means for the refusals.
-- Assumes nothing.
use Prim.Native.Nat.{ℕ, zero, suc, ◌+◌, ◌*◌, ◌≤◌, ◌<◌}
use mathlib.Core.Path.{◌≡◌, refl, sym, ap, ◌∙◌, subst}
use mathlib.Core.Bool.{Bool, true, false, cond, ◌&&◌, ◌||◌, not, and-false}
use mathlib.Core.List.{List, [], ◌∷◌}
use mathlib.Core.Option.{none}
use native.Mathlib.Omega.{arith}
use lib.Dec.{eqb, ltb}
use lib.ListN.{length, set}
use borrow.Author.Tests.{eqb-true, eqb-false, ltb-true, lt-ltb}
use Rattle.rules.specs.Lists.{is_one_of, is_empty, any_of}
use Rattle.rules.specs.Table.{NONE, TYPE, PARENT, ELEMENT, ATTRIBUTE, TEXT, DOCUMENT, DECLARATION, LEVEL1_ELEMENT, LEVEL1_ATTRIBUTE, Node, nodes, node, word, row_count, is_element, is_level1}
use Rattle.rules.specs.Refusals.{refused_if, parent_rule, parent_allowed}
use Rattle.rules.specs.Lookups.{climb, elements_from, declares, scope_of}
use Rattle.rules.specs.Normalization.{level1_refusal}
use Rattle.rules.specs.declared.Refusal.{Refusal}
use Rattle.rules.proofs.Lists.{by_cases, true-not-false}
use Rattle.rules.proofs.Table.{length-nodes}
use Rattle.rules.proofs.Refusals.{none-lowest}
use Rattle.rules.proofs.Accepted.{Accepted, parent-allowed}
use Rattle.rows.proofs.Words.{type-word, parent-word}
use Rattle.scopes.specs.Rows.{up}
use Rattle.stacks.specs.Stacks.{NUMBERED, under_at, Untouched}
use Rattle.scopes.specs.Standing.{Standing}
use Rattle.scopes.proofs.Changes.{standing-numbered}
use Rattle.bindings.specs.Asking.{element_settled, attribute_settled}
use Rattle.markup.specs.Writing.{in_subtree, lowest_row, has_no_markup, is_undeclared, nearer, is_inherited}
use Rattle.subtree.proofs.Flags.{in-none}
use Rattle.inheritance.specs.Tests.{is_top}
use Rattle.near_rows.specs.Outward.{is_leaf, Near, Noted}
use Rattle.near_rows.proofs.Outward.{stands-outside, noted-kept, noted-leaf, noted-next}
use Rattle.row_meanings.specs.Tests.{is_writable}
use Rattle.unsettled.specs.Walkable.{Walkable}
use Rattle.unsettled.proofs.Walking.{is-accepted, few, ready, walkable-moved, element-is, attribute-is}
use Rattle.unsettled.proofs.Leaves.{attribute-bare, noted-xml, noted-walkable}
use Rattle.meanings.specs.Names.{undeclared}
use Rattle.meanings.specs.Writable.{Writable}
use Rattle.meanings.proofs.Names.{owned}

-- What is writable is of one of these types.
kind-told : (el at tx dc dm s u : Bool) → cond el s (cond at u ((tx || dc) || dm)) ≡ true → (el || (at || (tx || (dc || (dm || false))))) ≡ true
kind-told true at tx dc dm s u e = refl
kind-told false true tx dc dm s u e = refl
kind-told false false true dc dm s u e = refl
kind-told false false false true dm s u e = refl
kind-told false false false false true s u e = refl
kind-told false false false false false s u e = e

module _ {table pool notes tops path : List ℕ} (w : Walkable table pool notes tops path) where
  abbrev ns : List Node
  ns = nodes table pool

  inside : {r : ℕ} → r < row_count table → r < length ns
  inside h = rw (length-nodes table pool) h

  -- What is told of a row where the arrays stand at it.
  module _ (r : ℕ) (below : r < row_count table) (standing : is_leaf (word table r TYPE) ≡ false → Standing table notes tops path (r + 1)) (told : is_writable table notes tops path r ≡ true) where
    kind-is : is_one_of (ELEMENT ∷ ATTRIBUTE ∷ TEXT ∷ DECLARATION ∷ DOCUMENT ∷ []) (node ns r).type ≡ true
    kind-is =
        rw (type-word table pool r below)
        (kind-told (eqb (word table r TYPE) ELEMENT) (eqb (word table r TYPE) ATTRIBUTE) (eqb (word table r TYPE) TEXT) (eqb (word table r TYPE) DECLARATION) (eqb (word table r TYPE) DOCUMENT) (element_settled notes tops path r) (attribute_settled notes tops path r) told)

    declared-is : (e : ℕ) → is_element (node ns e).type ≡ true → undeclared ns e r ≡ false
    unfolding is_undeclared
    declared-is e element =
        by_cases (in_subtree ns e r)
        (λ i.
        by_cases (eqb (word table r TYPE) ELEMENT)
        (λ t.
        let kind = eqb-true (word table r TYPE) ELEMENT t in
        let here = standing (rw kind refl) in
        let settled : element_settled notes tops path r ≡ true = rw t at told in
        rw (i, type-word table pool r below, t) (ap not (sym (element-is w (r + 1) here r below (rw t refl) t) ∙ settled)))
        (λ t.
        by_cases (eqb (word table r TYPE) ATTRIBUTE)
        (λ u.
        let kind = eqb-true (word table r TYPE) ATTRIBUTE u in
        let here = stands-outside table notes r below (attribute-bare w r below kind) tops path (ready w) (standing (rw kind refl)) in
        let settled : attribute_settled notes tops path r ≡ true = rw (t, u) at told in
        rw (i, type-word table pool r below, t, u) (ap not (sym (attribute-is w (up table (r + 1)) here r below (rw t refl) t u (owned w e element r below i (type-word table pool r below ∙ kind))) ∙ settled)))
        (λ u. rw (i, type-word table pool r below, t, u) refl)))
        (λ i. rw i refl)

    pub writable-told : Writable ns r
    writable-told = record { kind = kind-is; declared = declared-is }

  -- The row's nearest position is noted.
  module _ (r : ℕ) (below : r < row_count table) (noted : Noted table notes path r) where
    -- what is ensured of the arrays then, which stand at position n
    abbrev Approached : List ℕ → List ℕ → ℕ → Type 0
    Approached tops' path' n =
        (Standing table notes tops' path' n × (n ≤ row_count table))
        × ((is_leaf (word table r TYPE) ≡ false → Standing table notes tops' path' (r + 1)) × (Noted table notes path' (r + 1) × (under_at path' NUMBERED 0 ≡ under_at path NUMBERED 0)))

    pub approached-leaf : {n : ℕ} → Standing table notes tops path n → n ≤ row_count table → is_leaf (word table r TYPE) ≡ true → Approached tops path n
    approached-leaf standing low leaf = ((standing, low), (λ inner. absurd (true-not-false leaf inner), (noted-leaf table notes path r noted leaf, refl)))

    module _ (n : ℕ) (near : Near table notes n (r + 1)) {path' : List ℕ} (is : path' ≡ set path (4 * (r + 1) + NUMBERED) n) where
      pub noted-standing : (q : ℕ) → Standing table notes tops path q → Standing table notes tops path' q
      noted-standing q s = rw is (standing-numbered table notes tops path q (r + 1) n s)

      noted-row : Noted table notes path' (r + 1)
      noted-row = rw is (noted-next table notes path r noted n near (omega (arith, w.placed)))

      pub approached-there : Standing table notes tops path n → Approached tops path' n
      approached-there s =
          let standing = noted-standing n s in
          ((standing, near.low), (λ inner. near.stands tops path' (ready (noted-walkable w r noted n is)) standing, (noted-row, noted-xml w r noted n is)))

      pub approached-moved : {tops'' path'' : List ℕ} → length tops'' ≡ length tops → length path'' ≡ length path' → Standing table notes tops'' path'' n → Untouched path' path'' → Approached tops'' path'' n
      approached-moved {tops''} {path''} ts ps standing kept =
          ((standing, near.low), (λ inner. near.stands tops'' path'' (ready (walkable-moved (noted-walkable w r noted n is) tops'' path'' ts ps kept)) standing, (noted-kept table notes path' (r + 1) path'' kept noted-row, kept 0 ∙ noted-xml w r noted n is)))

-- The pass has come to row r.
pub record Passing (table notes tops₀ path₀ tops path : List ℕ) (position r : ℕ) : Type 0 where
  pub xml : under_at path NUMBERED 0 ≡ under_at path₀ NUMBERED 0
  pub standing : Standing table notes tops path position
  pub low : position ≤ row_count table
  pub noted : Noted table notes path r
  pub writable : (pool : List ℕ) → Walkable table pool notes tops₀ path₀ → (q : ℕ) → q < r → Writable (nodes table pool) q

-- One row more.
pub writable-next : {ns : List Node} (r : ℕ) → ((q : ℕ) → q < r → Writable ns q) → Writable ns r → (q : ℕ) → q < r + 1 → Writable ns q
writable-next {ns} r before here q below =
    by_cases (eqb q r)
    (λ t. subst (Writable ns) (sym (eqb-true q r t)) here)
    (λ t. let other = eqb-false q r t in before q (omega arith))

-- A document lies in no row.
document-alone : {table pool : List ℕ} → Accepted table pool → (r : ℕ) → r < length (nodes table pool) → (node (nodes table pool) r).type ≡ DOCUMENT → (node (nodes table pool) r).parent ≡ NONE
unfolding parent_allowed parent_rule
document-alone {table} {pool} accepted r below kind =
    let ns = nodes table pool in
    let allowed = parent-allowed ns (length pool) r (accepted.row r below) in
    by_cases (eqb (node ns r).parent NONE)
    (λ t. eqb-true (node ns r).parent NONE t)
    (λ t. absurd (true-not-false (rw (kind, t) at allowed) (and-false (ltb (node ns r).parent r))))

-- A row of these types is of DOM Level 2, and only a document is not written.
later-kind : (k : ℕ) → is_one_of (ELEMENT ∷ ATTRIBUTE ∷ TEXT ∷ DECLARATION ∷ DOCUMENT ∷ []) k ≡ true → is_level1 k ≡ false
later-kind k is =
    by_cases (eqb k LEVEL1_ELEMENT)
    (λ t. absurd (true-not-false (subst (λ (j : ℕ). is_one_of (ELEMENT ∷ ATTRIBUTE ∷ TEXT ∷ DECLARATION ∷ DOCUMENT ∷ []) j ≡ true) (eqb-true k LEVEL1_ELEMENT t) is) refl))
    (λ t.
    by_cases (eqb k LEVEL1_ATTRIBUTE)
    (λ u. absurd (true-not-false (subst (λ (j : ℕ). is_one_of (ELEMENT ∷ ATTRIBUTE ∷ TEXT ∷ DECLARATION ∷ DOCUMENT ∷ []) j ≡ true) (eqb-true k LEVEL1_ATTRIBUTE u) is) refl))
    (λ u. rw (t, u) refl))

unwritten-kind : (a b c d document : Bool) → (a || (b || (c || (d || (document || false))))) ≡ true → (a || (b || (c || (d || false)))) ≡ false → document ≡ true
unwritten-kind true b c d document is other = absurd (true-not-false refl other)
unwritten-kind false true c d document is other = absurd (true-not-false refl other)
unwritten-kind false false true d document is other = absurd (true-not-false refl other)
unwritten-kind false false false true document is other = absurd (true-not-false refl other)
unwritten-kind false false false false true is other = refl
unwritten-kind false false false false false is other = is

-- What an element at the top inherits.
climb-document : (steps : ℕ) (ns : List Node) (r : ℕ) → (node ns r).type ≡ DOCUMENT → climb steps ns r ≡ []
unfolding climb
climb-document zero ns r kind = refl
climb-document (suc steps) ns r kind = rw kind refl

inherits-none : (a b o x : Bool) → (a && b && not o && (o || false) && x) ≡ false
inherits-none true true true x = refl
inherits-none true true false x = refl
inherits-none true false true x = refl
inherits-none true false false x = refl
inherits-none false b o x = refl

inherited-outside : (ns : List Node) (e r : ℕ) → elements_from ns e ≡ e ∷ [] → is_inherited ns e r ≡ false
unfolding is_inherited
inherited-outside ns e r alone =
    rw alone
    (inherits-none (eqb (node ns r).type DECLARATION) (not (is_empty (node ns r).value.bytes)) (eqb (node ns r).parent e) (not (any_of (declares (node ns r).local.bytes) (scope_of ns (nearer (node ns r).parent (e ∷ []))))))

-- No row is refused.
module _ {table pool notes tops path : List ℕ} (w : Walkable table pool notes tops path) (all : (q : ℕ) → q < row_count table → Writable (nodes table pool) q) where
  each : (r : ℕ) → r < length (nodes table pool) → Writable (nodes table pool) r
  each r below = all r (rw length-nodes at below)

  -- 9.
  pub none-level1 : level1_refusal (nodes table pool) ≡ none
  unfolding level1_refusal
  none-level1 =
      none-lowest (λ r. refused_if (is_level1 (node (nodes table pool) r).type) (Refusal.Level1 (record { 0 = r }))) (length (nodes table pool))
      (λ r below. rw (later-kind (node (nodes table pool) r).type (each r below).kind) refl)

  module _ (e : ℕ) (element : is_element (node (nodes table pool) e).type ≡ true) where
    written : (r : ℕ) → r < length (nodes table pool) → (in_subtree (nodes table pool) e r && has_no_markup (nodes table pool) r) ≡ false
    unfolding has_no_markup
    written r below =
        let ns = nodes table pool in
        let k = (node (nodes table pool) r).type in
        by_cases (is_one_of (ELEMENT ∷ ATTRIBUTE ∷ TEXT ∷ DECLARATION ∷ []) (node (nodes table pool) r).type)
        (λ t. rw t (and-false (in_subtree ns e r)))
        (λ t.
        let document = unwritten-kind (eqb k ELEMENT) (eqb k ATTRIBUTE) (eqb k TEXT) (eqb k DECLARATION) (eqb k DOCUMENT) (each r below).kind t in
        let kind = eqb-true (node (nodes table pool) r).type DOCUMENT document in
        let count = length-nodes table pool in
        let outside : in_subtree (nodes table pool) e r ≡ false =
        in-none ns e r (λ same. true-not-false (subst (λ (j : ℕ). is_element (node ns j).type ≡ true) (sym same) element) (rw kind refl)) (omega (arith, document-alone (is-accepted w) r below kind, few w, below, count)) in
        rw outside refl)

    -- 20.
    pub none-unwritten : lowest_row (nodes table pool) (λ (r : ℕ). in_subtree (nodes table pool) e r && has_no_markup (nodes table pool) r) Refusal.NotMarkup ≡ none
    none-unwritten =
        none-lowest (λ r. refused_if (in_subtree (nodes table pool) e r && has_no_markup (nodes table pool) r) (Refusal.NotMarkup (record { 0 = r }))) (length (nodes table pool))
        (λ r below. rw (written r below) refl)

    -- 23.
    pub none-undeclared : lowest_row (nodes table pool) (undeclared (nodes table pool) e) Refusal.Undeclared ≡ none
    none-undeclared =
        none-lowest (λ r. refused_if (undeclared (nodes table pool) e r) (Refusal.Undeclared (record { 0 = r }))) (length (nodes table pool))
        (λ r below. rw ((each r below).declared e element) refl)

-- 24.
module _ (table pool : List ℕ) (e : ℕ) (below : e < row_count table) (element : is_element (node (nodes table pool) e).type ≡ true) (top : is_top table e ≡ true) where
  elements-alone : elements_from (nodes table pool) e ≡ e ∷ []
  unfolding elements_from climb
  elements-alone =
      let ns = nodes table pool in
      let parent = parent-word table pool e below in
      by_cases (ltb (node (nodes table pool) e).parent e)
      (λ t.
      let less = ltb-true (node (nodes table pool) e).parent e t in
      let within : word table e PARENT < row_count table = omega (arith, less, parent, below) in
      let document = eqb-true (word table (word table e PARENT) TYPE) DOCUMENT (rw (lt-ltb (word table e PARENT) (row_count table) within) at top) in
      let kind : (node ns (node ns e).parent).type ≡ DOCUMENT = ap (λ (k : ℕ). (node ns k).type) parent ∙ type-word table pool (word table e PARENT) within ∙ document in
      rw (element, t, climb-document e ns (node ns e).parent kind) refl)
      (λ t. rw (element, t) refl)

  pub none-inherited : lowest_row (nodes table pool) (is_inherited (nodes table pool) e) Refusal.Inherited ≡ none
  none-inherited =
      none-lowest (λ r. refused_if (is_inherited (nodes table pool) e r) (Refusal.Inherited (record { 0 = r }))) (length (nodes table pool)) (λ r h. rw (outside r) refl)
    where
      outside : (r : ℕ) → is_inherited (nodes table pool) e r ≡ false
      outside r = inherited-outside (nodes table pool) e r elements-alone
