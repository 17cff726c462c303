-- What a subtree is refused for, from what the functions answer; and the arrays that they work in.
-- Assumes nothing.
use Rattle.std.specs.Prelude.{Result, Ok, Err, ⊤}
use Prim.Native.Nat.{ℕ, ◌≤◌, ◌<◌}
use mathlib.Core.Path.{◌≡◌, refl, sym, ap, ◌∙◌}
use mathlib.Core.Bool.{true, false, ◌&&◌}
use mathlib.Core.List.{List, [], ◌∷◌}
use mathlib.Core.Option.{Option, none, some}
use native.Mathlib.Omega.{arith}
use lib.ListN.{length, replicate, length-replicate}
use Rattle.rules.specs.Table.{MOST_ROWS, NONE, Node, nodes, node, row_count}
use Rattle.rules.specs.Refusals.{first_refusal, verdict, check_refusal}
use Rattle.rules.specs.declared.Refusal.{Refusal}
use Rattle.rules.proofs.Refusals.{verdict-accepted, first-refused, first-passed}
use Rattle.stacks.specs.Stacks.{NUMBERED, under_at}
use Rattle.scopes.specs.Standing.{Standing}
use Rattle.characters.specs.Characters.{holds_forbidden, forbidden_from}
use Rattle.markup.specs.Writing.{in_subtree, lowest_row, has_no_markup, is_inherited, subtree_refusal}
use Rattle.markup_refusals.proofs.Parts.{clean-accepted}
use Rattle.inheritance.specs.Tests.{is_top}
use Rattle.unsettled.specs.Walkable.{Prepared}
use Rattle.unsettled.proofs.Walking.{few, walkable-kept}
use Rattle.meanings.specs.Names.{undeclared}
use Rattle.meanings.specs.Writable.{Writable, WritableTo}
use Rattle.meanings.proofs.Writable.{none-level1, none-unwritten, none-undeclared, none-inherited}
use Rattle.subtree_refusals.specs.Unrefused.{Unrefused}

module _ {table pool notes tops path : List ℕ} (p : Prepared table pool notes tops path) where
  pub is-accepted : check_refusal table pool ≡ none
  is-accepted = p.walkable.accepted

  pub few-prepared : row_count table ≤ MOST_ROWS
  few-prepared = few p.walkable

  -- The arrays went through the rows and back.
  pub prepared_again : (tops' path' : List ℕ) → length tops' ≡ length tops → length path' ≡ length path → under_at path' NUMBERED 0 ≡ under_at path NUMBERED 0 → Standing table notes tops' path' 0 → Prepared table pool notes tops' path'
  prepared_again tops' path' ts ps kept standing = record { walkable = walkable-kept p.walkable tops' path' ts ps kept; standing = standing }

  -- What is clear is not refused.
  pub unrefused-clear :
      (e : ℕ) → e < row_count table → is_top table e ≡ true → forbidden_from pool ≡ false → WritableTo table pool NONE → Unrefused table pool e
  unfolding subtree_refusal
  unrefused-clear e within top clean before =
      let all : (q : ℕ) → q < row_count table → Writable (nodes table pool) q = λ q l. before q (omega (arith, few-prepared)) l in
      record {
        within = within;
        level2 = none-level1 p.walkable all;
        subtree = λ start element.
            rw (
              none-unwritten p.walkable all e element,
              verdict-accepted (lowest_row (nodes table pool) (λ (r : ℕ). in_subtree (nodes table pool) e r && holds_forbidden (node (nodes table pool) r).value.bytes) Refusal.Character) (sym (clean-accepted table pool is-accepted clean e)),
              none-undeclared p.walkable all e element,
              none-inherited table pool e within element top,
            )
            refl;
      }

-- There are flags for all rows.
pub flags-room : (n : ℕ) → n ≤ MOST_ROWS → n ≤ length (replicate {A = ℕ} MOST_ROWS 0)
flags-room n small = rw length-replicate small

-- The refusals of a subtree, one by one.
module _ (ns : List Node) (start e : ℕ) where
  abbrev drawn20 : Option Refusal
  drawn20 = lowest_row ns (λ (r : ℕ). in_subtree ns e r && has_no_markup ns r) Refusal.NotMarkup

  abbrev drawn21 : Option Refusal
  drawn21 = lowest_row ns (λ (r : ℕ). in_subtree ns e r && holds_forbidden (node ns r).value.bytes) Refusal.Character

  abbrev names : List (Option Refusal)
  names = lowest_row ns (undeclared ns e) Refusal.Undeclared ∷ lowest_row ns (is_inherited ns e) Refusal.Inherited ∷ []

  module _ {markup : Result ⊤ Refusal} (first : markup ≡ verdict drawn20) where
    pub subtree-markup : (x : Refusal) → markup ≡ Err x → markup ≡ verdict (subtree_refusal ns start (some e))
    unfolding subtree_refusal
    subtree-markup x is = first-refused drawn20 (drawn21 ∷ names) first x is

    module _ (passed : markup ≡ Ok tt) {characters : Result ⊤ Refusal} (second : characters ≡ verdict drawn21) where
      behind : subtree_refusal ns start (some e) ≡ first_refusal (drawn21 ∷ names)
      unfolding subtree_refusal
      behind = first-passed drawn20 (drawn21 ∷ names) first passed

      pub subtree-characters : (x : Refusal) → characters ≡ Err x → characters ≡ verdict (subtree_refusal ns start (some e))
      subtree-characters x is = first-refused drawn21 names second x is ∙ ap verdict (sym behind)

      pub subtree-names : characters ≡ Ok tt → {last : Result ⊤ Refusal} → last ≡ verdict (first_refusal names) → last ≡ verdict (subtree_refusal ns start (some e))
      subtree-names accepted third = third ∙ ap verdict (sym (behind ∙ first-passed drawn21 names second accepted))
