-- A declaration that was written behind the rows becomes one of the path's.
-- Assumes nothing.
use Prim.Native.Nat.{ℕ, ◌+◌, ◌-◌, ◌*◌, ◌≤◌, ◌<◌}
use mathlib.Core.Path.{◌≡◌, refl, sym, ◌∙◌, ap, subst}
use mathlib.Core.List.{List, [], ◌∷◌}
use native.Mathlib.Omega.{arith}
use lib.ListN.{length, take}
use borrow.Author.Tests.{ne_eqb}
use Rattle.rules.specs.Lists.{filtered, gathered}
use Rattle.rules.specs.Table.{WIDTH, MOST_ROWS, PARENT, PREFIX, URI, MAKER, word, row_count}
use Rattle.rules.specs.Normalization.{State}
use Rattle.rows.specs.Reading.{place_at}
use Rattle.buffers.specs.Writes.{written, declaration_words}
use Rattle.buffers.proofs.Meaning.{count-rows}
use Rattle.notes.specs.Notes as noting
use Rattle.notes.specs.Notes.{NOTES, note_at}
use Rattle.stacks.specs.Scopes.{nearest, differs, serving, first, Each}
use Rattle.scopes.specs.Rows.{owner_of, own_rows, outward, scope_rows, SameTree}
use Rattle.stacks.specs.Stacks.{PREFIXES, top_at, Untouched, prefix_at, value_at}
use Rattle.scopes.specs.Standing as standing
use Rattle.scopes.specs.Standing.{Standing, Linked, Relinked, Ready, Declaring}
use Rattle.stacks.proofs.Each.{each_map}
use Rattle.scopes.proofs.Answers.{standing-nearest}
use Rattle.scopes.proofs.Same.{serving-each}
use Rattle.scopes.proofs.Changes.{outward-same, own_same, standing-changed}
use Rattle.bindings.proofs.Held.{scope-positions}
use Rattle.changes.specs.Changes.{noted_for}
use Rattle.working.specs.Working.{Good, SameAttributes, AtTop, declared_for}
use Rattle.working.proofs.Held.{rows_fit, part_count, parent-word}
use Rattle.working.proofs.Changed.{numbers-relinked, for-other, for-local, for-value}
use Rattle.working.proofs.Steps.{Appended, appended, appended-attributes}

-- The same scope of a table of the same tree.
gathered-same : {A : Type 0} (f g : ℕ → List A) → ((x : ℕ) → f x ≡ g x) → (xs : List ℕ) → gathered f xs ≡ gathered g xs
gathered-same f g same [] = refl
gathered-same f g same (x ∷ xs) = rw (same x, gathered-same f g same xs) refl

pub scope-same : (before table : List ℕ) (q : ℕ) → SameTree before table → row_count table ≡ row_count before → q ≤ row_count before → scope_rows table q ≡ scope_rows before q
unfolding scope_rows
scope-same before table q tree count low =
    rw (outward-same before table tree q low)
    (gathered-same (own_rows table) (own_rows before) (λ e. rw count (own_same before table tree e (row_count before) (omega arith))) (outward before q))

-- What serves depends on the numbers of the scope's positions.
filtered-kept : (pre pre' : ℕ → ℕ) (n : ℕ) (l : List ℕ) → Each (λ (d : ℕ). pre' d ≡ pre d) l → filtered (differs pre' n) l ≡ filtered (differs pre n) l
filtered-kept pre pre' n [] same = refl
filtered-kept pre pre' n (d ∷ l) same = rw (same.0, filtered-kept pre pre' n l same.1) refl

pub serving-kept :
    (pre val pre' val' : ℕ → ℕ) (scope : List ℕ) (u : ℕ) → Each (λ (d : ℕ). (pre' d ≡ pre d) × (val' d ≡ val d)) scope → serving pre' val' scope u ≡ serving pre val scope u
unfolding serving
serving-kept pre val pre' val' [] u same = refl
serving-kept pre val pre' val' (d ∷ scope) u same =
    let rest = serving-kept pre val pre' val' scope u same.1 in
    let further : filtered (differs pre' (pre d)) (serving pre val scope u) ≡ filtered (differs pre (pre d)) (serving pre val scope u) =
    filtered-kept pre pre' (pre d) (serving pre val scope u) (serving-each (λ (x : ℕ). pre' x ≡ pre x) pre val scope u (each_map (λ x a. a.0) scope same.1)) in
    rw (same.0.0, same.0.1, rest, further) refl

pub none_first : (l : List ℕ) → Each (λ (d : ℕ). 0 < d) l → first l ≡ 0 → l ≡ []
none_first [] each is = refl
none_first (d ∷ l) each is = absurd (omega (arith, each.0))

pub nearest-none : (key : ℕ → ℕ) (scope : List ℕ) (n : ℕ) → Each (λ (d : ℕ). key d ≡ n → ⊥) scope → nearest key scope n ≡ 0
unfolding nearest
nearest-none key [] n each = refl
nearest-none key (d ∷ scope) n each = rw (ne_eqb (key d) n each.0, nearest-none key scope n each.1) refl

-- Links change no attribute's.
pub relinked-attributes : (notes notes' : List ℕ) → Relinked notes notes' → SameAttributes notes notes'
relinked-attributes notes notes' same r k late inside = same r k inside (λ z. omega arith) (λ z. omega arith)

module _ {table pool notes tops path before : List ℕ} {rows bytes names limit q e : ℕ} {made : State} (a : Appended table pool notes tops path before rows bytes names limit q e made) where
  abbrev now : List ℕ
  now = take (WIDTH * (rows + 1)) table

  -- Buffers with the links of the new row.
  rebuilt :
      {notes' tops' path' : List ℕ} {q' : ℕ} → length notes' ≡ length notes → length tops' ≡ length tops → length path' ≡ length path → Untouched path path'
      → Linked now notes' (rows + 1) → Relinked notes notes' → Standing now notes' tops' path' q' → Good table pool notes' tops' path' (rows + 1) bytes names limit q' made
  rebuilt {notes'} {tops'} {path'} ns ts ps same linked kept standing =
      let n = numbers-relinked a.numbers notes' (λ r k less. kept r k (omega arith) (λ z. omega arith) (λ z. omega arith)) in
      record {
        lent =
            record {
              room = a.lent.room;
              bytes_room = a.lent.bytes_room;
              noted = rw ns a.lent.noted;
              placed = rw ps a.lent.placed;
              topped = rw ts a.lent.topped;
            };
        words = a.words;
        held = a.held;
        numbers = record { spelling = n.spelling; spelled = n.spelled; rows = n.rows; xml = rw (same 0) n.xml; numbered = λ k low high. same k ∙ n.numbered k low high };
        linked = linked;
        standing = standing;
      }

  -- The path stands outside the owner.
  pub good-linked : q ≤ e → e < rows → {notes' : List ℕ} → length notes' ≡ length notes → Linked now notes' (rows + 1) → Relinked notes notes' → Good table pool notes' tops path (rows + 1) bytes names limit q made
  good-linked low within {notes'} ns linked kept =
      rebuilt ns refl refl (λ k. refl) linked kept
      (standing-changed before now notes notes' tops path q a.there a.tree (omega (arith, a.few))
      (λ d over under. let last : d ≡ rows + 1 = omega (arith, a.few, a.total) in let own : owner_of now d ≡ e = ap (owner_of now) last ∙ a.owner in omega arith)
      (omega arith)
      (λ d some? less own. (kept (d - 1) noting.LOCAL_NAME (omega arith) (λ z. omega arith) (λ z. omega arith), kept (d - 1) noting.VALUE (omega arith) (λ z. omega arith) (λ z. omega arith))))

  -- The path stands at the owner, and the new declaration is put on top.
  pub declaring :
      q ≡ e + 1 → e < rows → top_at tops PREFIXES (note_at notes rows noting.LOCAL_NAME) ≡ 0
      → serving (prefix_at notes) (value_at notes) (scope_rows before q) (note_at notes rows noting.VALUE) ≡ [] → Declaring now notes tops path q
  declaring here within top none? =
      let back : row_count now - 1 ≡ rows = omega (arith, a.total) in
      let owner : q - 1 ≡ e = omega arith in
      record {
        before = before;
        grown =
            record {
              tree = a.tree;
              one = omega (arith, a.total, a.few);
              declares = rw a.few a.type;
              owned = rw (a.few, owner) a.parent;
              earlier = omega (arith, a.few);
            };
        position = omega arith;
        standing = a.there;
        linked = rw a.few a.old;
        new = rw back (sym (standing-nearest before notes tops path q a.there (note_at notes rows noting.LOCAL_NAME)) ∙ top);
        needed = rw back none?;
      }

  pub good-declared :
      {notes' tops' path' : List ℕ} → length notes' ≡ length notes → length tops' ≡ length tops → length path' ≡ length path → Untouched path path'
      → Linked now notes' (row_count now) → Relinked notes notes' → Standing now notes' tops' path' q → Good table pool notes' tops' path' (rows + 1) bytes names limit q made
  good-declared {notes'} ns ts ps same linked kept standing = rebuilt ns ts ps same (subst (Linked now notes') a.total linked) kept standing

  -- The arrays have room for the new row too.
  pub appended-room : standing.Room now notes tops path
  appended-room =
      let count : length made.rows ≡ rows + 1 = count-rows table (rows + 1) made.rows a.words (omega (arith, a.lent.room.row_room, a.lent.room.table_room)) in
      record {
        small = rw a.total (omega (arith, a.lent.room.row_room, a.lent.room.limit_small));
        noted = rw a.total (omega (arith, a.lent.noted, a.lent.room.row_room));
        placed = rw a.total (omega (arith, a.lent.placed, a.lent.room.row_room));
        prefixes = λ d some? low. omega (arith, (a.numbers.rows (d - 1) (omega (arith, a.total))).local.known, a.lent.topped);
        values = λ d some? low. omega (arith, (a.numbers.rows (d - 1) (omega (arith, a.total))).value.known, a.lent.topped);
      }

-- The declaration of an attribute, put on top.
module _ {table notes tops path : List ℕ} {rows a : ℕ} (h : AtTop table notes tops path rows a) where
  abbrev words : List ℕ
  words = take (WIDTH * rows) table

  pub top-rows : (WIDTH * rows ≤ length table) × (a < row_count words)
  top-rows = (rows_fit h.good, rw (part_count h.good) h.below)

  pub top-room : ((a < rows) × (rows < MOST_ROWS)) × ((WIDTH * rows + WIDTH ≤ length table) × (NOTES * rows + NOTES ≤ length notes))
  top-room = (
    (h.below, omega (arith, h.more, h.good.lent.room.limit_small)),
    (omega (arith, h.more, h.good.lent.room.table_room), omega (arith, h.more, h.good.lent.noted)),
  )

  pub top-table : WIDTH * (rows + 1) ≤ length table
  top-table = omega (arith, h.more, h.good.lent.room.table_room)

  module _ (o : ℕ) (read : o ≡ word words a PARENT) where
    pub top-owner : o ≡ h.owner
    top-owner = read ∙ parent-word h.good a h.below ∙ h.parent

    pub top_small : o < MOST_ROWS
    top_small = omega (arith, top-owner, h.earlier, h.more, h.good.lent.room.limit_small)

    module _ {table₁ notes₁ : List ℕ} (made : table₁ ≡ written table (WIDTH * rows) (declaration_words o (word words a MAKER) (place_at words a PREFIX) (place_at words a URI)))
        (number : notes₁ ≡ noted_for notes rows a) where
      made_as : table₁ ≡ written table (WIDTH * rows) (declaration_words h.owner (word words a MAKER) (place_at words a PREFIX) (place_at words a URI))
      made_as = made ∙ ap (λ (x : ℕ). written table (WIDTH * rows) (declaration_words x (word words a MAKER) (place_at words a PREFIX) (place_at words a URI))) top-owner

      top-written : Appended table₁ h.pool notes₁ tops path words rows h.bytes h.names h.limit (h.owner + 1) h.owner (declared_for h.owner a h.state)
      top-written = appended h.good h.owner a h.below h.earlier h.more made_as number (omega (arith, h.earlier))

      note-room : NOTES * rows + NOTES ≤ length notes
      note-room = omega (arith, h.more, h.good.lent.noted)

      -- the new row's numbers are the attribute's, and the others are kept
      local-is : note_at notes₁ rows noting.LOCAL_NAME ≡ note_at notes a noting.PREFIX
      local-is = ap (λ (l : List ℕ). note_at l rows noting.LOCAL_NAME) number ∙ for-local h.good.numbers rows a note-room

      value-is : note_at notes₁ rows noting.VALUE ≡ note_at notes a noting.URI
      value-is = ap (λ (l : List ℕ). note_at l rows noting.VALUE) number ∙ for-value h.good.numbers rows a note-room

      others : (d k : ℕ) → d < rows → k < NOTES → note_at notes₁ d k ≡ note_at notes d k
      others d k less inside = ap (λ (l : List ℕ). note_at l d k) number ∙ for-other h.good.numbers rows a note-room d k inside (λ z. omega arith)

      pub top-declares : {here : ℕ} → here ≡ o + 1 → standing.Room (take (WIDTH * (rows + 1)) table₁) notes₁ tops path × Declaring (take (WIDTH * (rows + 1)) table₁) notes₁ tops path here
      top-declares is =
          let scope = scope_rows words (h.owner + 1) in
          let agree : Each (λ (d : ℕ). (prefix_at notes₁ d ≡ prefix_at notes d) × (value_at notes₁ d ≡ value_at notes d)) scope =
          each_map
          (λ d p. let less : d - 1 < rows = omega (arith, p.0, p.1, part_count h.good) in (others (d - 1) noting.LOCAL_NAME less (omega arith), others (d - 1) noting.VALUE less (omega arith)))
          scope (scope-positions words (h.owner + 1)) in (
            appended-room top-written,
            subst (Declaring (take (WIDTH * (rows + 1)) table₁) notes₁ tops path) (sym (is ∙ ap (λ (x : ℕ). x + 1) top-owner))
                (declaring top-written refl h.earlier (rw local-is h.new)
                (rw value-is (serving-kept (prefix_at notes) (value_at notes) (prefix_at notes₁) (value_at notes₁) scope (note_at notes a noting.URI) agree ∙ h.needed))),
          )

      pub top-done :
          {here : ℕ} → here ≡ o + 1 → {notes₂ tops₂ path₂ : List ℕ} → length notes₂ ≡ length notes₁ → length tops₂ ≡ length tops → length path₂ ≡ length path → Untouched path path₂
          → Ready (take (WIDTH * (rows + 1)) table₁) notes₂ tops₂ path₂ → Relinked notes₁ notes₂ → Standing (take (WIDTH * (rows + 1)) table₁) notes₂ tops₂ path₂ here
          → Good table₁ h.pool notes₂ tops₂ path₂ (rows + 1) h.bytes h.names h.limit (h.owner + 1) (declared_for h.owner a h.state)
      top-done is {notes₂} {tops₂} {path₂} ns ts ps same ready kept stands =
          good-declared top-written ns ts ps same ready.linked kept
          (subst (Standing (take (WIDTH * (rows + 1)) table₁) notes₂ tops₂ path₂) (is ∙ ap (λ (x : ℕ). x + 1) top-owner) stands)

      pub top-attributes : (notes₂ : List ℕ) → Relinked notes₁ notes₂ → SameAttributes notes notes₂
      top-attributes notes₂ kept r k late inside =
          relinked-attributes notes₁ notes₂ kept r k late inside
          ∙ appended-attributes h.good h.owner a h.below h.earlier h.more made_as number (omega (arith, h.earlier)) r k late inside
