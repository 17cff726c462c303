-- The attributes and declarations of an element, put one behind the other along the links.
-- Assumes nothing.
use Prim.Native.Nat.{ℕ, zero, suc, ◌+◌, ◌≤◌, ◌<◌}
use mathlib.Core.Path.{◌≡◌, refl, sym, ap, subst, ◌∙◌}
use mathlib.Core.Bool.{Bool, true}
use mathlib.Core.List.{List, ◌++◌, map}
use native.Mathlib.Omega.{arith}
use lib.Dec.{eqb}
use lib.ListN.{length}
use borrow.Author.Tests.{eqb-false, ne_eqb}
use Rattle.rules.specs.Lists.{filtered, gathered, numbers_from}
use Rattle.rules.specs.Table.{nodes, Node, node_at, row_count}
use Rattle.rules.proofs.Lists.{by_cases}
use Rattle.notes.specs.Notes.{FIRST, note_at}
use Rattle.buffers.specs.Writes.{Put}
use Rattle.buffers.proofs.Writes.{put-nothing, put-behind}
use Rattle.children.specs.Children.{is_under, rows_from}
use Rattle.children.proofs.Walking.{Reached, rows-first, reach-first, rows_next, reach-next, next-later, rows_end}
use Rattle.markup.specs.Trees.{is_owned, written_attribute, written_attributes}
use Rattle.markup.specs.Markup.{attribute_markup}
use Rattle.tags.specs.Links.{Linked, before, left}

-- What is shown of the rows that pass a test is shown of their positions.
module _ {A B : Type 0} (f : B → List A) (g : Node → B) (passes : Node → Bool) (h : ℕ → Node) where
  by-positions : (i count : ℕ) → gathered f (map g (filtered passes (map h (numbers_from i count)))) ≡ gathered (λ d. f (g (h (before d)))) (filtered (λ d. passes (h (before d))) (numbers_from (suc i) count))
  by-positions i zero = refl
  by-positions i (suc count) =
      let s : before (suc i) ≡ i = omega arith in
      by_cases (passes (h i))
      (λ t. rw (s, t) (ap (λ l. f (g (h i)) ++ l) (by-positions (suc i) count) ∙ ap (λ k. f (g (h k)) ++ gathered (λ d. f (g (h (before d)))) (filtered (λ d. passes (h (before d))) (numbers_from (suc (suc i)) count))) (sym s)))
      (λ t. rw (s, t) (by-positions (suc i) count))

module _ (table pool : List ℕ) where
  -- what is put for the row at a position
  abbrev pub shown : ℕ → List ℕ
  shown d = attribute_markup (written_attribute (node_at table pool (before d)))

  abbrev pub whole : ℕ → List ℕ
  whole e = gathered attribute_markup (written_attributes (nodes table pool) e)

  whole-shown : (e : ℕ) → whole e ≡ gathered shown (filtered (is_under true table e) (numbers_from 1 (row_count table)))
  unfolding written_attributes nodes
  whole-shown e = by-positions attribute_markup written_attribute (is_owned e) (node_at table pool) 0 (row_count table)

  module _ (links : List ℕ) (e : ℕ) where
    abbrev n : ℕ
    n = row_count table

    -- What is left from a position on, put from `to` on, is the whole put from `at` of the output at first.
    pub record Left (linked : Linked table links) (row : e < n) (out₀ : List ℕ) (at : ℕ) (out : List ℕ) (to position : ℕ) : Type 0 where
      pub reached : Reached (is_under true table) FIRST links n linked.owned e row position
      pub size : length out ≡ length out₀
      pub rest : {r : ℕ} {out' : List ℕ} → Put out to (gathered shown (rows_from (is_under true table) n e position)) r out' → Put out₀ at (whole e) r out'

    module _ (linked : Linked table links) (row : e < n) (out₀ : List ℕ) (at : ℕ) where
      pub left-start : (position : ℕ) → position ≡ note_at links e FIRST → Left linked row out₀ at out₀ at position
      left-start position head =
          let first = rows-first (is_under true table) FIRST links n linked.owned e row position head in
          record {
            reached = reach-first (is_under true table) FIRST links n linked.owned e row position head;
            size = refl;
            rest = λ p. rw (whole-shown e, first) p;
          }

      module _ {out : List ℕ} {to position : ℕ} (l : Left linked row out₀ at out to position) where
        pub left-row : position ≤ n
        left-row = l.reached.within

        pub left_end : position ≤ 0 → Put out₀ at (whole e) to out
        left_end h =
            let none : position ≡ 0 = omega arith in
            l.rest (rw (none, rows_end (is_under true table) n e) (put-nothing out to))

        module _ (h : 0 < position) {r : ℕ} (there : r ≡ before position) (next : ℕ) (link : next ≡ note_at links r (FIRST + 1)) where
          link-there : next ≡ note_at links (before position) (FIRST + 1)
          link-there = link ∙ ap (λ x. note_at links x (FIRST + 1)) there

          pub left-later : 0 < next → position < next
          left-later = next-later (is_under true table) FIRST links n linked.owned e row position h l.reached next link-there

          pub left-next : {out' : List ℕ} {to' : ℕ} → Put out to (attribute_markup (written_attribute (node_at table pool r))) to' out' → Left linked row out₀ at out' to' next
          left-next {out'} {to'} p =
              let more = rows_next (is_under true table) FIRST links n linked.owned e row position h l.reached next link-there in
              record {
                reached = reach-next (is_under true table) FIRST links n linked.owned e row position h l.reached next link-there;
                size = p.size ∙ l.size;
                rest = λ q. l.rest (rw more (put-behind (subst (λ x. Put out to (attribute_markup (written_attribute (node_at table pool x))) to' out') there p) q));
              }

-- How many rows are left falls.
pub left-falls : (n position next : ℕ) → 0 < position → position ≤ n → (0 < next → position < next) → left n next < left n position
unfolding left
left-falls n position next h within rises =
    by_cases (eqb next 0)
    (λ t. rw (t, ne_eqb position 0 (λ e. omega arith)) (omega arith))
    (λ t. let some = eqb-false next 0 t in let later = rises (omega arith) in rw (t, ne_eqb position 0 (λ e. omega arith)) (omega arith))
