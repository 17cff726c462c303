-- What the numbers of names say where the arrays stand is what the definitions say.
-- Assumes nothing.
use Rattle.std.specs.Prelude.{Result, Err, ⊤}
use Prim.Native.Nat.{ℕ, ◌+◌, ◌-◌, ◌<◌}
use mathlib.Core.Path.{◌≡◌, refl, sym, ◌∙◌, ap, subst}
use mathlib.Core.Bool.{Bool, true, false, ◌&&◌, not}
use mathlib.Core.List.{List, [], ◌∷◌}
use mathlib.Core.Option.{Option}
use native.Mathlib.Omega.{arith}
use lib.Dec.{eqb, ltb}
use borrow.Author.Tests.{eqb-true, eqb-false, eq-eqb, ne_eqb}
use Rattle.rules.specs.Lists.{any_of, is_one_of, is_empty}
use Rattle.rules.specs.Table.{NONE, TYPE, ELEMENT, ATTRIBUTE, DECLARATION, Node, nodes, node, word, row_count, is_element}
use Rattle.rules.specs.Refusals.{refused_if, first_refusal, verdict}
use Rattle.rules.specs.Lookups.{elements_from, declares, scope_of, scope_at}
use Rattle.rules.specs.Demands.{is_bound}
use Rattle.rules.specs.declared.Refusal.{Refusal}
use Rattle.rules.proofs.Lists.{by_cases, true-not-false}
use Rattle.rules.proofs.Table.{length-nodes}
use Rattle.rules.proofs.Unique.{accepted-unique}
use Rattle.rules.proofs.Refusals.{first_alone}
use Rattle.rows.proofs.Words.{type-word, parent-word}
use Rattle.notes.specs.Notes.{LOCAL_NAME, VALUE, note_at}
use Rattle.numbers.specs.Noted.{declared_uri}
use Rattle.stacks.specs.Stacks.{PREFIXES, top_at}
use Rattle.scopes.specs.Standing.{Standing}
use Rattle.bindings.specs.Spelled.{row_at}
use Rattle.bindings.proofs.Held.{top_within}
use Rattle.bindings.proofs.Deciding.{nearest-declared}
use Rattle.bindings.proofs.Scopes.{blank-test}
use Rattle.markup.specs.Writing.{in_subtree, lowest_row, is_undeclared, nearer, is_inherited}
use Rattle.subtree.specs.Flags.{Flagged}
use Rattle.subtree.proofs.Scans.{flag_is}
use Rattle.subtree.proofs.Flags.{in-none}
use Rattle.inheritance.specs.Tests.{is_open}
use Rattle.unsettled.specs.Walkable.{Walkable}
use Rattle.unsettled.specs.Lowest.{NoneBefore, Lowest, unmeant}
use Rattle.unsettled.proofs.Lowest.{lowest-same, lowest-refusal}
use Rattle.unsettled.proofs.Walking.{is-accepted, few, row_within, noted-row, here, top-is}
use Rattle.meanings.specs.Names.{undeclared}
use Rattle.meanings.specs.Writable.{WritableTo}
use Rattle.meanings.proofs.Inherited.{nearest-is-inherited}

-- The test of a declaration, by the tests that it is made of.
open-parts : (empty owned on free : Bool) → (true && ((not owned && not empty) && (on && free))) ≡ (true && not empty && not owned && on && free)
open-parts true true on free = refl
open-parts true false on free = refl
open-parts false true on free = refl
open-parts false false on free = refl

module _ {table pool notes tops path : List ℕ} (w : Walkable table pool notes tops path) where
  abbrev ns : List Node
  ns = nodes table pool

  -- 24, where the arrays stand at an element.
  module _ (e : ℕ) (standing : Standing table notes tops path (e + 1)) (within : e < row_count table) (kind : is_element (node ns e).type ≡ true) (r : ℕ) (below : r < row_count table) where
    pub open_is : is_open table notes tops e r ≡ is_inherited ns e r
    unfolding is_inherited scope_at
    open_is =
        let type = type-word table pool r below in
        let parent = parent-word table pool r below in
        by_cases (eqb (word table r TYPE) DECLARATION)
        (λ q.
        let kind? : (node ns r).type ≡ DECLARATION = type ∙ eqb-true (word table r TYPE) DECLARATION q in
        let number = noted-row w r below in
        let valued : declared_uri (node ns r) ≡ (node ns r).value.bytes = rw (eq-eqb (node ns r).type DECLARATION kind?) refl in
        let value : is_empty (node ns r).value.bytes ≡ eqb (note_at notes r VALUE) 0 = ap is_empty (sym valued) ∙ blank-test w.spelled number.value in
        let inherited =
        nearest-is-inherited ns (accepted-unique table pool (is-accepted w)) (elements_from ns e) r (top_at tops PREFIXES (note_at notes r LOCAL_NAME)) (row_within w below) kind?
        (nearest-declared (here w e standing within kind) number.local ∙ ap (row_at (λ k. node ns (k - 1))) (sym (top-is w e standing within kind (note_at notes r LOCAL_NAME))))
        (rw (length-nodes table pool) (top_within table notes tops path (e + 1) standing (note_at notes r LOCAL_NAME))) in
        rw (q, eq-eqb (node ns r).type DECLARATION kind?, value, sym parent, inherited)
        (open-parts (eqb (note_at notes r VALUE) 0) (eqb (node ns r).parent e) (is_one_of (elements_from ns e) (node ns r).parent) (not (any_of (declares (node ns r).local.bytes) (scope_of ns (nearer (node ns r).parent (elements_from ns e)))))))
        (λ q. rw (q, ne_eqb (node ns r).type DECLARATION (λ z. eqb-false (word table r TYPE) DECLARATION q (sym type ∙ z))) refl)

  -- 23: an attribute of a subtree has an owner,
  module _ (e : ℕ) (element : is_element (node ns e).type ≡ true) (r : ℕ) (below : r < row_count table) where
    pub owned : in_subtree ns e r ≡ true → (node ns r).type ≡ ATTRIBUTE → (node ns r).parent ≡ NONE → ⊥
    owned inside kind alone =
        true-not-false inside
        (in-none ns e r (λ same. true-not-false (subst (λ (k : ℕ). is_element (node ns k).type ≡ true) (sym same) element) (rw kind refl)) (omega (arith, alone, few w)))

    -- so that the flags of a subtree tell.
    undeclared-is : (flags : List ℕ) → Flagged table flags e (row_count table) → undeclared ns e r ≡ unmeant ns flags r
    unfolding is_undeclared is_bound
    undeclared-is flags flagged =
        let flag = flag_is table pool flags e flagged r below in
        by_cases (in_subtree ns e r)
        (λ i.
        by_cases (eqb (node ns r).type ELEMENT)
        (λ t. rw (flag, i, t) refl)
        (λ t.
        by_cases (eqb (node ns r).type ATTRIBUTE)
        (λ u. rw (flag, i, t, u, ne_eqb (node ns r).parent NONE (owned i (eqb-true (node ns r).type ATTRIBUTE u))) refl)
        (λ u. rw (flag, i, t, u) refl)))
        (λ i. rw (flag, i) refl)

  module _ (flags : List ℕ) (e : ℕ) (flagged : Flagged table flags e (row_count table)) (element : is_element (node ns e).type ≡ true) where
    -- Rows that are writable mean their URIs.
    pub writable-means : (first : ℕ) → WritableTo table pool first → NoneBefore (unmeant ns flags) (row_count table) first
    writable-means first writable q l below = sym (undeclared-is e element q below flags flagged) ∙ (writable q l below).declared e element

    pub lowest-undeclared : (r : ℕ) → Lowest (unmeant ns flags) (row_count table) r → lowest_row ns (undeclared ns e) Refusal.Undeclared ≡ refused_if (ltb r (row_count table)) (Refusal.Undeclared (record { 0 = r }))
    lowest-undeclared r lowest =
        rw (length-nodes table pool)
        (lowest-refusal (undeclared ns e) (row_count table) r Refusal.Undeclared
        (lowest-same (unmeant ns flags) (row_count table) r (undeclared ns e) (λ q below. undeclared-is e element q below flags flagged) lowest))

-- Two refusals, one after the other: the first is that of a row, if it is one.
module _ (a b : Option Refusal) (within : Bool) (x : Refusal) (told : a ≡ refused_if within x) where
  pub second-told : within ≡ false → {i : Result ⊤ Refusal} → i ≡ verdict b → i ≡ verdict (first_refusal (a ∷ b ∷ []))
  second-told is other = rw (told, is) (other ∙ ap verdict (first_alone b))

  pub first-told : within ≡ true → Err x ≡ verdict (first_refusal (a ∷ b ∷ []))
  first-told is = rw (told, is) refl
