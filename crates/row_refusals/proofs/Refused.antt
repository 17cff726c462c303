-- What a row is refused for, from what the functions answer.
-- Assumes nothing.
use Rattle.std.specs.Prelude.{Result, Ok, Err, ⊤}
use Prim.Native.Nat.{ℕ, zero, suc, ◌≤◌, ◌<◌}
use mathlib.Core.Path.{◌≡◌, refl, sym, ap, ◌∙◌, subst}
use mathlib.Core.Bool.{true, ◌&&◌}
use mathlib.Core.List.{List, [], ◌∷◌}
use mathlib.Core.Option.{Option, none, some, none-ne-some, some-injective}
use native.Mathlib.Omega.{arith}
use lib.Dec.{eqb}
use lib.ListN.{length}
use Rattle.rules.specs.Lists.{numbers_from}
use Rattle.rules.specs.Table.{MOST_ROWS, DOCUMENT, Node, nodes, node, row_count, is_element}
use Rattle.rules.specs.Refusals.{first_refusal, verdict}
use Rattle.rules.specs.Lookups.{element_child}
use Rattle.rules.specs.Normalization.{level1_refusal}
use Rattle.rules.specs.declared.Refusal.{Refusal}
use Rattle.rules.proofs.Lists.{by_cases, both_true, true-not-false, first_that-passes}
use Rattle.rules.proofs.Table.{length-nodes}
use Rattle.rules.proofs.Refusals.{first_alone, first-refused, first-passed}
use Rattle.rows.specs.Reading.{row_or}
use Rattle.markup.specs.Writing.{element_to_write, subtree_refusal}
use Rattle.subtree_refusals.specs.Unrefused.{Unrefused}
use Rattle.row_refusals.specs.Refused.{row_refusal}

-- The element that is written is one, and a row.
chosen : (ns : List Node) (start e : ℕ) → element_to_write ns start ≡ some e → is_element (node ns e).type ≡ true
unfolding element_to_write element_child
chosen ns start e h =
    by_cases (is_element (node ns start).type)
    (λ q. subst (λ (r : ℕ). is_element (node ns r).type ≡ true) (some-injective start e (rw q at h)) q)
    (λ q.
    by_cases (eqb (node ns start).type DOCUMENT)
    (λ d.
    (both_true (is_element (node ns e).type) (eqb (node ns e).parent start)
    (first_that-passes (λ (child : ℕ). is_element (node ns child).type && eqb (node ns child).parent start) (numbers_from 0 (length ns)) (rw (q, d) at h))).0)
    (λ d. absurd (none-ne-some e (rw (q, d) at h))))

element-inside : (ns : List Node) (e : ℕ) → is_element (node ns e).type ≡ true → e < length ns
unfolding node
element-inside [] e is = absurd (true-not-false is refl)
element-inside (n ∷ ns) zero is = omega arith
element-inside (n ∷ ns) (suc e) is = omega (arith, element-inside ns e is)

none_both : (a b : Option Refusal) → first_refusal (a ∷ b ∷ []) ≡ none → (a ≡ none) × (b ≡ none)
none_both none none e = (refl, refl)
none_both none (some y) e = absurd (none-ne-some y (sym e))
none_both (some y) b e = absurd (none-ne-some y (sym e))

module _ (table pool : List ℕ) (start e : ℕ) (few : row_count table ≤ MOST_ROWS) (found : e ≡ row_or (element_to_write (nodes table pool) start)) where
  abbrev ns : List Node
  ns = nodes table pool

  -- No row is at hand: there is no element.
  pub element-none : row_count table ≤ e → element_to_write ns start ≡ none
  element-none past = go (element_to_write ns start) refl
    where
      go : (o : Option ℕ) → element_to_write ns start ≡ o → element_to_write ns start ≡ none
      go none is = is
      go (some k) is =
          let same : e ≡ k = found ∙ ap row_or is in
          let inside : k < length ns = element-inside ns k (chosen ns start k is) in
          absurd (omega (arith, same, inside, length-nodes table pool, past))

  pub element-chosen : e < row_count table → element_to_write ns start ≡ some e
  element-chosen within = go (element_to_write ns start) refl
    where
      go : (o : Option ℕ) → element_to_write ns start ≡ o → element_to_write ns start ≡ some e
      go none is = let z : e ≡ 4294967295 = found ∙ ap row_or is in absurd (omega (arith, z, within, few))
      go (some k) is = let same : e ≡ k = found ∙ ap row_or is in is ∙ ap some (sym same)

  pub element-kind : e < row_count table → is_element (node ns e).type ≡ true
  element-kind within = chosen ns start e (element-chosen within)

  -- What is clear is not refused.
  pub row-clear : Unrefused table pool e → (Ok tt) ≡ verdict (row_refusal ns start)
  unfolding row_refusal
  row-clear clear = rw (element-chosen clear.within, clear.level2, clear.subtree start (element-kind clear.within)) refl

  -- 9; and behind it the subtree.
  module _ {level1 : Result ⊤ Refusal} (first : level1 ≡ verdict (level1_refusal ns)) where
    pub row-level1 : (x : Refusal) → level1 ≡ Err x → level1 ≡ verdict (row_refusal ns start)
    unfolding row_refusal
    row-level1 x is = first-refused (level1_refusal ns) (subtree_refusal ns start (element_to_write ns start) ∷ []) first x is

    module _ (passed : level1 ≡ Ok tt) where
      behind : row_refusal ns start ≡ subtree_refusal ns start (element_to_write ns start)
      unfolding row_refusal
      behind = first-passed (level1_refusal ns) (subtree_refusal ns start (element_to_write ns start) ∷ []) first passed ∙ sym (first_alone (subtree_refusal ns start (element_to_write ns start)))

      pub row-subtree : e < row_count table → {drawn : Result ⊤ Refusal} → drawn ≡ verdict (subtree_refusal ns start (some e)) → drawn ≡ verdict (row_refusal ns start)
      row-subtree within second = second ∙ ap verdict (sym (behind ∙ ap (subtree_refusal ns start) (element-chosen within)))

      pub row-none : row_count table ≤ e → Err (Refusal.NotMarkup (record { 0 = start })) ≡ verdict (row_refusal ns start)
      unfolding subtree_refusal
      row-none past = ap verdict (sym (behind ∙ ap (subtree_refusal ns start) (element-none past)))

  -- What is not refused is written.
  pub record Written : Type 0 where
    pub level2 : level1_refusal ns ≡ none
    pub element : element_to_write ns start ≡ some e
    pub subtree : subtree_refusal ns start (some e) ≡ none
    pub within : e < row_count table

  pub row_written : row_refusal ns start ≡ none → Written
  unfolding row_refusal subtree_refusal
  row_written free = go (element_to_write ns start) refl
    where
      parts : (level1_refusal ns ≡ none) × (subtree_refusal ns start (element_to_write ns start) ≡ none)
      parts = none_both (level1_refusal ns) (subtree_refusal ns start (element_to_write ns start)) free

      go : (o : Option ℕ) → element_to_write ns start ≡ o → Written
      go none is = absurd (none-ne-some (Refusal.NotMarkup (record { 0 = start })) (sym parts.1 ∙ ap (subtree_refusal ns start) is))
      go (some k) is =
          let same : e ≡ k = found ∙ ap row_or is in
          let to : element_to_write ns start ≡ some e = is ∙ ap some (sym same) in
          let inside : e < length ns = element-inside ns e (chosen ns start e to) in
          record {
            level2 = parts.0;
            element = to;
            subtree = sym (ap (subtree_refusal ns start) to) ∙ parts.1;
            within = omega (arith, inside, length-nodes table pool);
          }
