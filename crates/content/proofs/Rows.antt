-- The content of an element along the links.
-- Assumes nothing.
use Prim.Native.Nat.{ℕ, zero, suc, ◌+◌, ◌-◌, ◌≤◌, ◌<◌}
use mathlib.Core.Path.{◌≡◌, refl, sym, ap, ◌∙◌}
use mathlib.Core.Bool.{Bool, true, false, cond, ◌&&◌}
use mathlib.Core.List.{List, [], ◌∷◌, map}
use native.Mathlib.Omega.{arith}
use lib.Dec.{eqb}
use borrow.Author.Tests.{eqb-true, eqb-false}
use Rattle.rules.specs.Lists.{filtered, numbers_from, is_one_of}
use Rattle.rules.specs.Table.{TYPE, PARENT, ELEMENT, TEXT, Node, nodes, node, row_count, word}
use Rattle.rules.proofs.Lists.{by_cases, both_true}
use Rattle.rules.proofs.Table.{length-nodes}
use Rattle.rows.proofs.Words.{type-word, parent-word}
use Rattle.notes.specs.Notes.{LATEST, note_at}
use Rattle.children.specs.Children.{kinds, is_under, rows_from}
use Rattle.children.proofs.Walking.{Reached, rows-first, reach-first, rows_next, reach-next, next-later, rows_end}
use Rattle.markup.specs.Trees.{Content, nothing, text, element, Qualified, child_rows, items_of, content_of, qualified_name, written_attributes}
use Rattle.tags.specs.Links.{Linked, before}

-- Rows that pass a test are positions that pass it.
by-positions : (passes : ℕ → Bool) (there : ℕ → Bool) (i count : ℕ) → ((r : ℕ) → r < i + count → passes r ≡ there (suc r)) → filtered passes (numbers_from i count) ≡ map before (filtered there (numbers_from (suc i) count))
by-positions passes there i zero same = refl
by-positions passes there i (suc count) same =
    let further = by-positions passes there (suc i) count (λ r h. same r (omega arith)) in
    let s : i ≡ before (suc i) = omega arith in
    by_cases (there (suc i))
    (λ t. rw (same i (omega arith) ∙ t, t) (ap (λ l. i ∷ l) further ∙ ap (λ k. k ∷ map before (filtered there (numbers_from (suc (suc i)) count))) s))
    (λ t. rw (same i (omega arith) ∙ t, t) further)

module _ (table pool : List ℕ) where
  abbrev n : ℕ
  n = row_count table

  abbrev ns : List Node
  ns = nodes table pool

  abbrev test : ℕ → ℕ → Bool
  test = is_under false table

  child-positions : (e : ℕ) → child_rows ns e ≡ map before (filtered (test e) (numbers_from 1 n))
  unfolding child_rows
  child-positions e =
      ap (λ k. filtered (λ (r : ℕ). is_one_of (ELEMENT ∷ TEXT ∷ []) (node ns r).type && eqb (node ns r).parent e) (numbers_from 0 k)) (length-nodes table pool)
      ∙ by-positions (λ (r : ℕ). is_one_of (ELEMENT ∷ TEXT ∷ []) (node ns r).type && eqb (node ns r).parent e) (test e) 0 n
      (λ r h. let s : suc r - 1 ≡ r = omega arith in rw (s, type-word table pool r (omega arith), parent-word table pool r (omega arith)) refl)

  -- the content of row e, and what of it stands from a position on; as many steps inward
  abbrev pub content : ℕ → ℕ → Content Qualified
  content steps e = content_of qualified_name written_attributes steps ns e

  abbrev pub items : ℕ → ℕ → ℕ → Content Qualified
  items steps e position = items_of qualified_name written_attributes (content steps) ns (map before (rows_from test n e position))

  pub none-items : (steps e position : ℕ) → position ≡ 0 → items steps e position ≡ nothing
  none-items steps e position z =
      ap (λ l. items_of qualified_name written_attributes (content steps) ns (map before l)) (ap (rows_from test n e) z ∙ rows_end test n e)

  module _ (links : List ℕ) (linked : Linked table links) where
    abbrev pub Here : (e : ℕ) → e < n → ℕ → Type 0
    Here e row position = Reached test LATEST links n linked.content e row position

    pub parent_is : (e position : ℕ) → test e position ≡ true → word table (before position) PARENT ≡ e
    parent_is e position t = eqb-true (word table (before position) PARENT) e (both_true (is_one_of (kinds false) (word table (before position) TYPE)) (eqb (word table (before position) PARENT) e) t).1

    -- The first row of the content of row e.
    module _ (e : ℕ) (row : e < n) (first : ℕ) (head : first ≡ note_at links e LATEST) where
      pub here-first : Here e row first
      here-first = reach-first test LATEST links n linked.content e row first head

      first-later : 0 < first → e + 1 < first
      first-later h = linked.later e first row h here-first.within (here-first.own h)

      first-items : (steps : ℕ) → content (suc steps) e ≡ items steps e first
      first-items steps =
          ap (items_of qualified_name written_attributes (content steps) ns)
          (child-positions e ∙ ap (map before) (rows-first test LATEST links n linked.content e row first head))

      -- One step more changes nothing, if it does not from the first row on.
      one_more : (steps : ℕ) → n < steps + (e + 1) → ((s : ℕ) → (0 < first → n < s + first) → items s e first ≡ items (suc s) e first) → content steps e ≡ content (suc steps) e
      one_more zero enough same = absurd (omega arith)
      one_more (suc s) enough same = first-items s ∙ same s (λ h. let later = first-later h in omega arith) ∙ sym (first-items (suc s))

    -- The row after a row.
    module _ (e : ℕ) (row : e < n) (position : ℕ) (h : 0 < position) (here : Here e row position) (next : ℕ) (link : next ≡ note_at links (before position) (LATEST + 1)) where
      pub here-next : Here e row next
      here-next = reach-next test LATEST links n linked.content e row position h here next link

      next-rises : 0 < next → position < next
      next-rises = next-later test LATEST links n linked.content e row position h here next link

      pub next-items : (steps : ℕ) → items steps e position ≡ items_of qualified_name written_attributes (content steps) ns (before position ∷ map before (rows_from test n e next))
      next-items steps = ap (λ l. items_of qualified_name written_attributes (content steps) ns (map before l)) (rows_next test LATEST links n linked.content e row position h here next link)

    -- As many steps as there are rows are enough.
    same-items : (k steps e : ℕ) (row : e < n) (position : ℕ) → Here e row position → (0 < position → n < k + position) → (0 < position → n < steps + position) → items steps e position ≡ items (suc steps) e position
    same-items zero steps e row position here deep enough =
        by_cases (eqb position 0)
        (λ t. let none = eqb-true position 0 t in none-items steps e position none ∙ sym (none-items (suc steps) e position none))
        (λ t. let some = eqb-false position 0 t in let within : position ≤ n = here.within in let d = deep (omega arith) in absurd (omega arith))
    same-items (suc k) steps e row position here deep enough =
        by_cases (eqb position 0)
        (λ t. let none = eqb-true position 0 t in none-items steps e position none ∙ sym (none-items (suc steps) e position none))
        (λ t.
        let some = eqb-false position 0 t in
        let h : 0 < position = omega arith in
        let within : position ≤ n = here.within in
        let d = deep h in
        let f = enough h in
        let r = before position in
        let inner : r < n = omega arith in
        let first = note_at links r LATEST in
        let next = note_at links r (LATEST + 1) in
        let follows : items steps e next ≡ items (suc steps) e next =
        same-items k steps e row next (here-next e row position h here next refl)
        (λ i. let rises = next-rises e row position h here next refl i in omega arith)
        (λ i. let rises = next-rises e row position h here next refl i in omega arith) in
        let holds : content steps r ≡ content (suc steps) r =
        one_more r inner first refl steps (omega arith)
        (λ s j. same-items k s r inner first (here-first r inner first refl) (λ i. let later = first-later r inner first refl i in omega arith) j) in
        next-items e row position h here next refl steps
        ∙ ap (λ c. cond (eqb (node ns r).type ELEMENT) (element (qualified_name (node ns r)) (written_attributes ns r) c (items steps e next)) (text (node ns r).value.bytes (items steps e next))) holds
        ∙ ap (λ c. cond (eqb (node ns r).type ELEMENT) (element (qualified_name (node ns r)) (written_attributes ns r) (content (suc steps) r) c) (text (node ns r).value.bytes c)) follows
        ∙ sym (next-items e row position h here next refl (suc steps)))

    pub content-items : (e : ℕ) → e < n → (first : ℕ) → first ≡ note_at links e LATEST → content n e ≡ items n e first
    content-items e row first head =
        one_more e row first head n (omega arith)
        (λ s j. same-items n s e row first (here-first e row first head) (λ i. omega arith) j)
        ∙ first-items e row first head n
